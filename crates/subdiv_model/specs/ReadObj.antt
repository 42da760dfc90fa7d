-- The reader of OBJ text: the first fault, or the mesh.
-- Source: Drillolive.
use Rattle.std.specs.Option.{option_or}
use Rattle.std.specs.Prelude.{ℕ, suc, ◌-◌, ◌^◌, ℤ, unsigned_abs, Bool, not, ◌&&◌, ◌||◌, nat_eq, nat_le, nat_lt, List, [], ◌∷◌, length, map, take, drop, get_or, Option, Some, None, option_map, unwrap_or, bytes_eq, codes, if◌then◌else◌}
use Rattle.std.specs.List.{filter, filter_map, flat_map, list_any, list_all, fold, count_by, range_with_len}
use Rattle.subdiv_model.specs.Lists.{first_of, last_of}
use Rattle.subdiv_model.specs.Polygons.{Polygon}
use Rattle.subdiv_model.specs.Lists.{places}
use Rattle.subdiv_model.specs.ObjLine.{lines_of, begins_with, is_vertex_line, is_face_line, line_words}
use Rattle.subdiv_model.specs.Multiples.{lcm_of}
use Rattle.subdiv_model.specs.Numeral.{numeral_form}
use Rattle.subdiv_model.specs.Sharpness.{Method, Normal}
use Rattle.subdiv_model.specs.Boundary.{Boundary, EdgeOnly}
use Rattle.subdiv_model.specs.ObjFault.{ObjCause, ObjFault, NumberRange, UnknownKeyword, Continuation, ShortLine, first_cause}
use Rattle.subdiv_model.specs.ObjMesh.{ObjMesh}
use Rattle.subdiv_model.specs.ObjWord.{Counts, numeral_fault, number_over, corner_fault, corner_point, corner_texture, has_texture_part}
use Rattle.subdiv_model.specs.ObjTag.{tag_fault, is_tag, tag_creases, tag_corners, tag_indices, tag_mode, tag_method}

-- a byte order mark, which the reader skips at the beginning
abbrev pub byte_order_mark : List ℕ
byte_order_mark = 239 ∷ 187 ∷ 191 ∷ []

-- the text without a byte order mark at its beginning
abbrev pub without_mark : List ℕ → List ℕ
without_mark text = if bytes_eq (take 3 text) byte_order_mark then drop 3 text else text

-- the lines of a text, each as its words
abbrev pub obj_lines : List ℕ → List (List (List ℕ))
obj_lines text = map line_words (lines_of (without_mark text))

-- the line is one of a texture value
abbrev pub is_texture_line : List (List ℕ) → Bool
is_texture_line words = begins_with (codes "vt") words

-- the line is one of a tag
abbrev pub is_tag_line : List (List ℕ) → Bool
is_tag_line words = begins_with (codes "t") words

-- keywords whose lines the reader drops
abbrev pub dropped_keywords : List (List ℕ)
dropped_keywords =
    codes "vn" ∷ codes "g" ∷ codes "o" ∷ codes "s" ∷ codes "usemtl" ∷ codes "mtllib" ∷ codes "l" ∷ codes "p" ∷ []

-- the keyword of the line is one whose lines the reader drops
abbrev pub is_dropped_line : List (List ℕ) → Bool
is_dropped_line words = list_any (λ keyword. begins_with keyword words) dropped_keywords

-- the keyword of the line is known
abbrev pub has_known_keyword : List (List ℕ) → Bool
has_known_keyword words =
    is_vertex_line words || is_texture_line words || is_face_line words || is_tag_line words || is_dropped_line words

-- the words after the keyword
abbrev pub values_of : List (List ℕ) → List (List ℕ)
values_of words = drop 1 words

-- the word ends with `\`
abbrev pub ends_with_backslash : List ℕ → Bool
ends_with_backslash word = nat_eq (get_or word (length word - 1) 0) 92

-- the last word of the line ends with `\`
abbrev pub is_continued : List (List ℕ) → Bool
is_continued words = ends_with_backslash (get_or words (length words - 1) [])

-- the least number of words that a line needs after its keyword
abbrev pub least_values : List (List ℕ) → ℕ
least_values words =
    if is_vertex_line words then 3
    else if is_tag_line words then 2
    else if is_texture_line words || is_face_line words then 1
    else 0

-- the fault of the first bad word from the left, by the counts of the lines before and of the whole file
abbrev pub words_fault : Counts → Counts → List (List ℕ) → Option ObjCause
words_fault before whole words =
    if is_vertex_line words || is_texture_line words then first_cause numeral_fault (values_of words)
    else if is_face_line words then first_cause (corner_fault before whole (get_or words 1 [])) (values_of words)
    else if is_tag_line words then tag_fault whole words
    else None

-- the fault of a line that has words
abbrev pub line_fault_of_words : Counts → Counts → List (List ℕ) → Option ObjCause
line_fault_of_words before whole words =
    if is_continued words then Some Continuation
    else if not (has_known_keyword words) then Some UnknownKeyword
    else if nat_lt (length (values_of words)) (least_values words) then Some ShortLine
    else words_fault before whole words

-- the fault of a line; a line without words is skipped
abbrev pub line_fault : Counts → Counts → List (List ℕ) → Option ObjCause
line_fault before whole [] = None
line_fault before whole (keyword ∷ values) = line_fault_of_words before whole (keyword ∷ values)

-- the numbers of points, texture values and faces in the lines, bad lines included
abbrev pub counts_of : List (List (List ℕ)) → Counts
counts_of lines = record {
  point_count = count_by is_vertex_line lines;
  texture_count = count_by is_texture_line lines;
  face_count = count_by is_face_line lines;
}

-- the fault of the line at place i, from 0
abbrev pub fault_at : List (List (List ℕ)) → ℕ → Option ObjCause
fault_at lines i = line_fault (counts_of (take i lines)) (counts_of lines) (get_or lines i [])

-- the coordinates of a line that are kept: three of a point, and one or two of a texture value
abbrev pub kept_coordinates : List (List ℕ) → List (List ℕ)
kept_coordinates words =
    if is_vertex_line words then take 3 (values_of words)
    else if is_texture_line words then take 2 (values_of words)
    else []

-- the denominator of a numeral in lowest terms
abbrev pub denominator_of : List ℕ → ℕ
denominator_of word = (numeral_form word).1

-- the common denominator of a channel over some of its lines: the least common multiple of `start` and the denominators of the
-- kept coordinates
abbrev pub common_over : ℕ → List (List (List ℕ)) → ℕ
common_over start lines = fold lcm_of start (map denominator_of (flat_map kept_coordinates lines))

-- the common denominator of the positions, a multiple of `10^least`
abbrev pub position_common : ℕ → List (List (List ℕ)) → ℕ
position_common least lines = common_over (10 ^ least) (filter is_vertex_line lines)

-- the common denominator of the texture values
abbrev pub texture_common_of : List (List (List ℕ)) → ℕ
texture_common_of lines = common_over 1 (filter is_texture_line lines)

-- the common denominator of the first lines of the channel passes 10^37
abbrev pub passes_bound : (List (List ℕ) → Bool) → ℕ → List (List (List ℕ)) → Bool
passes_bound is_of_channel start lines = nat_lt (10 ^ 37) (common_over start (filter is_of_channel lines))

-- the numeral has more than 37 digits over a common denominator
abbrev pub is_long_over : ℕ → List ℕ → Bool
is_long_over common word = nat_le (10 ^ 37) (unsigned_abs (number_over common word))

-- a number of the line is too long over a common denominator
abbrev pub has_long_number : ℕ → List (List ℕ) → Bool
has_long_number common words = list_any (is_long_over common) (kept_coordinates words)

-- the fault of line i of a channel: the common denominator passes the bound there, or a number is too long over it
abbrev pub wide_fault : (List (List ℕ) → Bool) → ℕ → List (List (List ℕ)) → ℕ → Option ObjCause
wide_fault is_of_channel start lines i =
    if is_of_channel (get_or lines i []) && passes_bound is_of_channel start (take (suc i) lines) then Some NumberRange else None

-- the fault of line i of a channel: a number that is too long
abbrev pub long_fault : (List (List ℕ) → Bool) → ℕ → List (List (List ℕ)) → ℕ → Option ObjCause
long_fault is_of_channel common lines i =
    if is_of_channel (get_or lines i []) && has_long_number common (get_or lines i []) then Some NumberRange else None

-- the first fault of the lines, where `cause_at` gives the cause at a place from 0
abbrev pub first_fault : (ℕ → Option ObjCause) → ℕ → Option ObjFault
first_fault cause_at count =
    first_of (filter_map (λ i. option_map (λ cause. record { line = suc i; cause = cause }) (cause_at i)) (range_with_len 0 count))

-- the first line that is bad by itself
abbrev pub first_bad_line : List (List (List ℕ)) → Option ObjFault
first_bad_line lines = first_fault (fault_at lines) (length lines)

-- The late fault of a channel: the first line at which its common denominator passes the bound. If it never does, the first line
-- with a number that is too long.
abbrev pub late_fault : (List (List ℕ) → Bool) → ℕ → List (List (List ℕ)) → Option ObjFault
late_fault is_of_channel start lines =
    if passes_bound is_of_channel start lines then first_fault (wide_fault is_of_channel start lines) (length lines)
    else first_fault (long_fault is_of_channel (common_over start (filter is_of_channel lines)) lines) (length lines)

-- the fault of the lesser line
abbrev pub lesser_fault : Option ObjFault → Option ObjFault → Option ObjFault
lesser_fault None other = other
lesser_fault (Some fault) None = Some fault
lesser_fault (Some fault) (Some other) = if nat_lt other.line fault.line then Some other else Some fault

-- the late fault of the lesser line among both channels
abbrev pub first_late_fault : ℕ → List (List (List ℕ)) → Option ObjFault
first_late_fault least lines = lesser_fault (late_fault is_vertex_line (10 ^ least) lines) (late_fault is_texture_line 1 lines)

-- the fault of lines, where the common denominator of the positions is a multiple of `10^least`
abbrev pub lines_fault : List (List (List ℕ)) → ℕ → Option ObjFault
lines_fault lines least = option_or (first_bad_line lines) (first_late_fault least lines)

-- the fault of a text
abbrev pub read_obj_fault : List ℕ → ℕ → Option ObjFault
read_obj_fault text least = lines_fault (obj_lines text) least

-- the point of a line over a common denominator
abbrev pub point_over : ℕ → List (List ℕ) → ℤ × ℤ × ℤ
point_over common words =
    (number_over common (get_or words 1 []), number_over common (get_or words 2 []), number_over common (get_or words 3 []))

-- the texture value of a line over a common denominator; a missing second coordinate is 0
abbrev pub texture_over : ℕ → List (List ℕ) → ℤ × ℤ
texture_over common words = (number_over common (get_or words 1 []), number_over common (get_or words 2 (codes "0")))

-- the numbers named by the corners of the face line at place i
abbrev pub corner_numbers : (Counts → Counts → List ℕ → Option ℕ) → List (List (List ℕ)) → ℕ → List ℕ
corner_numbers named lines i =
    map (λ corner. unwrap_or (named (counts_of (take i lines)) (counts_of lines) corner) 0) (values_of (get_or lines i []))

-- the faces of the lines
abbrev pub faces_of : List (List (List ℕ)) → List Polygon
faces_of lines = map (corner_numbers corner_point lines) (places is_face_line lines)

-- the text has a face, and each corner of each face has a texture value
abbrev pub has_texture_channel : List (List (List ℕ)) → Bool
has_texture_channel lines =
    list_any is_face_line lines && list_all (λ words. list_all has_texture_part (values_of words)) (filter is_face_line lines)

-- the texture corners of the faces
abbrev pub texture_corners_of : List (List (List ℕ)) → List Polygon
texture_corners_of lines =
    if has_texture_channel lines then map (corner_numbers corner_texture lines) (places is_face_line lines) else []

-- the tags of a name, in the order of the file
abbrev pub tags_named : List ℕ → List (List (List ℕ)) → List (List (List ℕ))
tags_named name lines = filter (is_tag name) lines

-- the boundary mode of the last tag that sets one
abbrev pub boundary_of : List (List (List ℕ)) → Boundary
boundary_of lines = last_of EdgeOnly (map tag_mode (tags_named (codes "interpolateboundary") lines))

-- the method of the last tag that sets one
abbrev pub method_of : List (List (List ℕ)) → Method
method_of lines = last_of Normal (map tag_method (tags_named (codes "creasemethod") lines))

-- the mesh of lines without fault
abbrev pub mesh_of_lines : List (List (List ℕ)) → ℕ → ObjMesh
mesh_of_lines lines least = record {
  points = map (point_over (position_common least lines)) (filter is_vertex_line lines);
  common = position_common least lines;
  texture = map (texture_over (texture_common_of lines)) (filter is_texture_line lines);
  texture_common = texture_common_of lines;
  faces = faces_of lines;
  has_texture = has_texture_channel lines;
  texture_corners = texture_corners_of lines;
  creases = flat_map tag_creases (tags_named (codes "crease") lines);
  corner_tags = flat_map tag_corners (tags_named (codes "corner") lines);
  holes = flat_map tag_indices (tags_named (codes "hole") lines);
  boundary = boundary_of lines;
  method = method_of lines;
}

-- the mesh of a text without fault
abbrev pub read_obj_mesh : List ℕ → ℕ → ObjMesh
read_obj_mesh text least = mesh_of_lines (obj_lines text) least
