-- The answers of `frames`: moved control points, line by line, and the points they change.
-- Source: Drillolive.
use Rattle.std.specs.Option.{option_or}
use Rattle.std.specs.Prelude.{ℕ, suc, ◌*◌, ◌%◌, ℤ, pos, Bool, not, ◌&&◌, nat_eq, nat_le, nat_lt, List, [], ◌∷◌, ◌++◌, length, map, max, take, drop, take_while, get_or, set, Option, Some, None, option_map, codes, if◌then◌else◌}
use Rattle.std.specs.List.{list_any, flat_map, fold}
use Rattle.subdiv_model.specs.Lists.{places}
use Rattle.subdiv_model.specs.Digits.{number_of_digits}
use Rattle.subdiv_model.specs.Polygons.{is_among}
use Rattle.subdiv_model.specs.Base.{base_level}
use Rattle.subdiv_model.specs.Mask.{CatmullClark}
use Rattle.subdiv_model.specs.Value.{whole_value}
use Rattle.subdiv_model.specs.Refined.{Point, refined_points, refined_denominators}
use Rattle.subdiv_model.specs.Support.{refined_supports}
use Rattle.subdiv_model.specs.Channel.{number_bound, greatest_amount}
use Rattle.subdiv_model.specs.Numeral.{are_digits}
use Rattle.subdiv_model.specs.NumberText.{number_text}
use Rattle.subdiv_model.specs.ObjLine.{line_words, begins_with}
use Rattle.subdiv_model.specs.ObjMesh.{ObjMesh}
use Rattle.subdiv_model.specs.ObjWord.{numeral_fault}
use Rattle.subdiv_model.specs.ObjFault.{ObjCause, BadNumeral, NumberRange, UnknownKeyword, ShortLine, MoveIndex, TooFine, LongLine, first_cause}
use Rattle.subdiv_model.specs.ReadObj.{without_mark, denominator_of, is_long_over, point_over}
use Rattle.subdiv_model.specs.Text.{line_text, point_words}
use Rattle.subdiv_model.specs.Fault.{Fault, Obj, Overflow, Positions, ValueOverflow}
use Rattle.far_model.specs.Refusal.{Answer, answer_unless}
use Rattle.far_model.specs.Stream.{LineRule}

-- the words of a line after others; the first line loses a byte order mark
abbrev pub words_after : List (List ℕ) → List ℕ → List (List ℕ)
words_after [] line = line_words (without_mark line)
words_after (first ∷ before) line = line_words line

-- the words of each line
abbrev pub words_of_lines : List (List ℕ) → List (List (List ℕ))
words_of_lines [] = []
words_of_lines (line ∷ lines) = words_after [] line ∷ map line_words lines

-- the first word of the line is `frames`
abbrev pub is_frames_line : List (List ℕ) → Bool
is_frames_line words = begins_with (codes "frames") words

-- one of the lines is a line `frames`
abbrev pub has_frames : List (List (List ℕ)) → Bool
has_frames lines = list_any is_frames_line lines

-- the lines before the first line `frames`
abbrev pub mesh_lines : List (List (List ℕ)) → List (List (List ℕ))
mesh_lines lines = take_while (λ words. not (is_frames_line words)) lines

-- the lines after the first line `frames`
abbrev pub frame_lines : List (List (List ℕ)) → List (List (List ℕ))
frame_lines lines = drop (suc (length (mesh_lines lines))) lines

-- the first word of the line is `move`
abbrev pub is_move_line : List (List ℕ) → Bool
is_move_line words = begins_with (codes "move") words

-- the first word of the line is `go`
abbrev pub is_go_line : List (List ℕ) → Bool
is_go_line words = begins_with (codes "go") words

-- the control point that a line `move i x y z` names
abbrev pub moved_index : List (List ℕ) → ℕ
moved_index words = number_of_digits (get_or words 1 [])

-- the new coordinates of a moved point, over the common denominator
abbrev pub moved_point : ℕ → List (List ℕ) → ℤ × ℤ × ℤ
moved_point common words = point_over common (drop 1 words)

-- the denominator of the numeral in lowest terms does not divide the common denominator
abbrev pub is_finer : ℕ → List ℕ → Bool
is_finer common word = not (nat_eq (common % denominator_of word) 0)

-- the fault of a coordinate of a move
abbrev pub coordinate_fault : ℕ → List ℕ → Option ObjCause
coordinate_fault common word =
    option_or (numeral_fault word)
    (if is_finer common word then Some TooFine else if is_long_over common word then Some NumberRange else None)

-- the fault of a move, by the number of control points and their common denominator
abbrev pub move_cause : ℕ → ℕ → List (List ℕ) → Option ObjCause
move_cause count common words =
    if nat_lt (length words) 5 then Some ShortLine
    else if not (are_digits (get_or words 1 [])) then Some BadNumeral
    else if nat_le count (moved_index words) then Some MoveIndex
    else first_cause (coordinate_fault common) (take 3 (drop 2 words))

-- the cause of bad words of a frame line
abbrev pub words_cause : ℕ → ℕ → List (List ℕ) → Option ObjCause
words_cause count common [] = None
words_cause count common (keyword ∷ values) =
    if is_move_line (keyword ∷ values) then move_cause count common (keyword ∷ values)
    else if is_go_line (keyword ∷ values) then None
    else Some UnknownKeyword

-- the most bytes of a frame line
abbrev pub line_limit : ℕ
line_limit = 65535

-- the cause of a bad frame line: its length, then its words
abbrev pub frame_cause : ℕ → ℕ → List ℕ → Option ObjCause
frame_cause count common line = if nat_lt line_limit (length line) then Some LongLine else words_cause count common (line_words line)

-- the coordinates of a point in a list
abbrev pub numbers_of : ℤ × ℤ × ℤ → List ℤ
numbers_of point = point.0 ∷ point.1 ∷ point.2 ∷ []

-- the greatest denominator of the points at a depth
abbrev pub greatest_at : ℕ → ObjMesh → ℕ
greatest_at depth mesh = fold max 1 (refined_denominators (base_level mesh) CatmullClark depth)

-- the line moves a point to a coordinate whose numerator passes its bound over that denominator
abbrev pub overflows : ℕ → ObjMesh → List (List ℕ) → Bool
overflows depth mesh words =
    is_move_line words && nat_lt number_bound (greatest_at depth mesh * greatest_amount (numbers_of (moved_point mesh.common words)))

-- the fault of a frame line, whose number counts from 1
abbrev pub frame_fault : ℕ → ObjMesh → ℕ → List ℕ → Option Fault
frame_fault depth mesh number line =
    option_or (option_map (λ cause. Obj (record { line = number; cause = cause })) (frame_cause (length mesh.points) mesh.common line))
    (if overflows depth mesh (line_words line) then Some (Overflow Positions depth ValueOverflow) else None)

-- the state after some frame lines: the control points, and those moved since the last `go`
pub record Frame : Type 0 where
  pub controls : List (ℤ × ℤ × ℤ)
  pub moved : List ℕ

-- the state after a line `move`
abbrev pub moved_frame : ℕ → Frame → List (List ℕ) → Frame
moved_frame common frame words = record {
  controls = set frame.controls (moved_index words) (moved_point common words);
  moved = frame.moved ++ moved_index words ∷ [];
}

-- the state after one more frame line
abbrev pub frame_after : ℕ → Frame → List (List ℕ) → Frame
frame_after common frame words =
    if is_move_line words then moved_frame common frame words
    else if is_go_line words then record { controls = frame.controls; moved = [] }
    else frame

-- the state after all frame lines, from the points of the mesh
abbrev pub frame_at : ObjMesh → List (List (List ℕ)) → Frame
frame_at mesh lines = fold (frame_after mesh.common) (record { controls = mesh.points; moved = [] }) lines

-- the points at a depth that depend on one of some control points, ascending
abbrev pub changed_points : ℕ → ObjMesh → List ℕ → List ℕ
changed_points depth mesh moved =
    places (λ support. list_any (is_among support) moved) (refined_supports (base_level mesh) CatmullClark depth)

-- the point that stands in for a missing one
abbrev pub no_point : Point
no_point = (whole_value (pos 0), whole_value (pos 0), whole_value (pos 0))

-- the line of a changed point: its number and its coordinates
abbrev pub changed_line : List Point → ℕ → List ℕ
changed_line points p = line_text (codes "p") (number_text p ∷ point_words (get_or points p no_point))

-- the number of changed points, then a line for each of them
abbrev pub changed_text : List Point → List ℕ → List ℕ
changed_text points changed = line_text (codes "frame") (number_text (length changed) ∷ []) ++ flat_map (changed_line points) changed

-- the answer to `go`
abbrev pub frame_text : ℕ → ObjMesh → Frame → List ℕ
frame_text depth mesh frame =
    changed_text (refined_points (base_level mesh) CatmullClark mesh.common frame.controls depth) (changed_points depth mesh frame.moved)

-- the answer to a frame line after others
abbrev pub frame_answer : ℕ → ObjMesh → List (List (List ℕ)) → ℕ → List ℕ → Answer
frame_answer depth mesh before number line =
    answer_unless (frame_fault depth mesh number line) (if is_go_line (line_words line) then frame_text depth mesh (frame_at mesh before) else [])

-- the answer to a line: a line of the mesh is kept, the line `frames` judges the mesh, and later lines are frame lines
abbrev pub line_answer : ℕ → (List (List (List ℕ)) → Option Fault) → (List (List (List ℕ)) → ObjMesh) → List (List ℕ) → List ℕ → Answer
line_answer depth refusal mesh before line =
    if has_frames (words_of_lines before)
    then frame_answer depth (mesh (mesh_lines (words_of_lines before))) (frame_lines (words_of_lines before)) (suc (length before)) line
    else if is_frames_line (words_after before line) then answer_unless (refusal (words_of_lines before)) []
    else answer_unless None []

-- the fault of a frame line that is too long, before LF closes it
abbrev pub unclosed_fault : List (List ℕ) → List ℕ → Option Fault
unclosed_fault before bytes =
    if has_frames (words_of_lines before) && nat_lt line_limit (length bytes)
    then Some (Obj (record { line = suc (length before); cause = LongLine })) else None

-- the answer to the end of the input, which judges the mesh if there was no line `frames`
abbrev pub end_answer : (List (List (List ℕ)) → Option Fault) → List (List ℕ) → Answer
end_answer refusal before = answer_unless (if has_frames (words_of_lines before) then None else refusal (words_of_lines before)) []

-- What each line of an input adds, from the refusal and the mesh of the lines before `frames`.
abbrev pub frames_rule : ℕ → (List (List (List ℕ)) → Option Fault) → (List (List (List ℕ)) → ObjMesh) → LineRule
frames_rule depth refusal mesh = record {
  line = line_answer depth refusal mesh;
  unclosed = unclosed_fault;
  end = end_answer refusal;
}
