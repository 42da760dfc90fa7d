-- The possible refusals of `frames`: a line, the mesh, a count or a number, and an input that is too long.
use Rattle.std.proofs.Common.{◌≡◌, ℕ, suc, ◌&&◌, Bool, true, false, ◌⊎◌, inl, inr, nat_lt, List, [], ◌∷◌, ◌++◌, length, map, take, Option, Some, None, option_map, refl, subst, if◌then◌else◌}
use Rattle.std.specs.Option.{option_or}
use Rattle.std.specs.List.{flat_map, range_with_len}
use Rattle.subdiv_model.specs.Lists.{first_of}
use Rattle.subdiv_model.specs.ObjFault.{ObjFault, ObjCause, LongLine}
use Rattle.subdiv_model.specs.ObjMesh.{ObjMesh}
use Rattle.subdiv_model.specs.MeshFault.{MeshFault, first_mesh_fault}
use Rattle.subdiv_model.specs.ReadObj.{lines_fault, mesh_of_lines}
use Rattle.subdiv_model.specs.Child.{faces_after}
use Rattle.subdiv_model.specs.Channel.{Tables, TrackLevels, whole_levels, fault_where, level_faults, has_many_entries, has_transition_overflow, has_denominator_overflow, has_value_overflow, has_chaikin_overflow}
use Rattle.subdiv_model.specs.Fault.{Fault, Usage, Read, Long, Obj, Mesh, TooLarge, Overflow, Write, Memory, Points, Faces, FaceSize, Valence, Track, Positions}
use Rattle.subdiv_model.specs.Limits.{count_faults, mesh_limit, face_limit, large_faces, large_vertices, valence_of}
use Rattle.far_model.specs.Command.{FramesOptions, Frames, Stencils}
use Rattle.far_model.specs.Refusal.{Answer, refused, answer_unless, answer_unless_refused, then_answer}
use Rattle.far_model.specs.Stream.{LineRule, answer_from, answer_at_end, answer_so_far, answer_of_all, answer_of_lines, closed_of, unclosed_of}
use Rattle.far_model.specs.Frames.{words_of_lines, words_after, has_frames, is_frames_line, mesh_lines, frame_cause, frame_fault, overflows, line_limit}
use Rattle.far_model.specs.Answer.{answer_of_read, answer_of_checked, table_faults, positions_of, command_text, frames_refusal, frames_mesh, rule_of}
use Rattle.subdiv_model.specs.ObjLine.{line_words}

-- a refusal, if there is one, for a cause in the lines
abbrev pub IsOfLines : Option Fault → Type 0
IsOfLines None = Unit {0}
IsOfLines (Some (Obj fault)) = Unit {0}
IsOfLines (Some (Mesh fault)) = Unit {0}
IsOfLines (Some (TooLarge counted)) = Unit {0}
IsOfLines (Some (Overflow track level kind)) = Unit {0}
IsOfLines (Some other) = ⊥

-- a refusal for the length of the input
abbrev pub IsOfInput : Option Fault → Type 0
IsOfInput refusal = IsOfLines refusal ⊎ (refusal ≡ Some Long)

abbrev AreOfLines : List Fault → Type 0
AreOfLines [] = Unit {0}
AreOfLines (fault ∷ faults) = IsOfLines (Some fault) × AreOfLines faults

first-of : (faults : List Fault) → AreOfLines faults → IsOfLines (first_of faults)
first-of [] are = tt
first-of (fault ∷ faults) are = are.0

both : (xs ys : List Fault) → AreOfLines xs → AreOfLines ys → AreOfLines (xs ++ ys)
both [] ys first second = second
both (x ∷ xs) ys first second = (first.0, both xs ys first.1 second)

standing : (stands : Bool) (fault : Fault) → IsOfLines (Some fault) → AreOfLines (fault_where stands fault)
standing true fault is = (is, tt)
standing false fault is = tt

each : {X : Type 0} (h : X → Fault) → ((x : X) → IsOfLines (Some (h x))) → (xs : List X) → AreOfLines (map h xs)
each h is [] = tt
each h is (x ∷ xs) = (is x, each h is xs)

all-of : {X : Type 0} (h : X → List Fault) → ((x : X) → AreOfLines (h x)) → (xs : List X) → AreOfLines (flat_map h xs)
all-of h are [] = tt
all-of h are (x ∷ xs) = both (h x) (flat_map h xs) (are x) (all-of h are xs)

unless : (fault : Option Fault) (text : List ℕ) → IsOfLines fault → IsOfLines (answer_unless fault text).refusal
unless None text is = tt
unless (Some fault) text is = is

-- the faults of a mesh, and of its table
counts-are : (mesh : ObjMesh) → AreOfLines (count_faults mesh)
counts-are mesh =
    let faces = each (λ face. TooLarge (FaceSize face.0 (length face.1))) (λ face. tt) (large_faces mesh) in
    let vertices = each (λ v. TooLarge (Valence v (valence_of mesh v))) (λ v. tt) (large_vertices mesh) in
    both _ _ (standing (nat_lt mesh_limit (length mesh.points)) (TooLarge (Points (length mesh.points))) tt)
    (both _ _ (standing (nat_lt mesh_limit (length mesh.faces)) (TooLarge (Faces (length mesh.faces))) tt) (both _ _ faces vertices))

level-are : (levels : TrackLevels) (track : Track) (k : ℕ) → AreOfLines (level_faults Tables levels track k)
level-are levels track k =
    both _ _ (standing (has_chaikin_overflow levels k) _ tt)
    (both _ _ (standing (has_transition_overflow levels k) _ tt)
    (both _ _ (standing (has_denominator_overflow levels k) _ tt)
    (both _ _ (standing (has_many_entries levels k) _ tt) (standing (has_value_overflow levels k) _ tt))))

tables-are : (depth : ℕ) (mesh : ObjMesh) → AreOfLines (table_faults depth mesh)
tables-are depth mesh =
    both _ _ (all-of _ (λ k. standing (nat_lt face_limit (faces_after mesh.faces (suc k))) _ tt) (range_with_len 0 depth))
    (all-of _ (level-are (whole_levels (positions_of mesh)) Positions) (range_with_len 0 depth))

module _ (depth : ℕ) (mesh : ObjMesh) where
  checked-is : (fault : Option MeshFault) → IsOfLines (answer_of_checked (Stencils depth) fault mesh).refusal
  checked-is (Some fault) = tt
  checked-is None = unless _ (command_text (Stencils depth) mesh) (first-of _ (both _ _ (counts-are mesh) (tables-are depth mesh)))

  read-is : (fault : Option ObjFault) → IsOfLines (answer_of_read (Stencils depth) fault mesh).refusal
  read-is (Some fault) = tt
  read-is None = checked-is (first_mesh_fault (length mesh.points) mesh.faces)

pub frames-refusal : (options : FramesOptions) (lines : List (List (List ℕ))) → IsOfLines (frames_refusal options lines)
frames-refusal options lines = read-is options.depth (mesh_of_lines lines options.scale) (lines_fault lines options.scale)

-- the refusal of a rule has its cause in the lines
pub record RefusesLines (rule : LineRule) : Type 0 where
  pub line : (before : List (List ℕ)) (line : List ℕ) → IsOfLines (rule.line before line).refusal
  pub unclosed : (before : List (List ℕ)) (bytes : List ℕ) → IsOfLines (rule.unclosed before bytes)
  pub end : (before : List (List ℕ)) → IsOfLines (rule.end before).refusal

either-answer : (test : Bool) (first second : Answer) → IsOfLines first.refusal → IsOfLines second.refusal → IsOfLines (if test then first else second).refusal
either-answer true first second one other = one
either-answer false first second one other = other

either-fault : (test : Bool) (first second : Option Fault) → IsOfLines first → IsOfLines second → IsOfLines (if test then first else second)
either-fault true first second one other = one
either-fault false first second one other = other

cause-is : (cause : Option ObjCause) (number : ℕ) (other : Option Fault) → IsOfLines other
    → IsOfLines (option_or (option_map (λ found. Obj (record { line = number; cause = found })) cause) other)
cause-is (Some cause) number other is = tt
cause-is None number other is = is

frame-fault : (depth : ℕ) (mesh : ObjMesh) (number : ℕ) (line : List ℕ) → IsOfLines (frame_fault depth mesh number line)
frame-fault depth mesh number line =
    cause-is (frame_cause (length mesh.points) mesh.common line) number _ (either-fault (overflows depth mesh (line_words line)) _ _ tt tt)

pub frames-refuses : (options : FramesOptions) → RefusesLines (rule_of (Frames options))
frames-refuses options = record {
  line = λ before line.
      let words = words_of_lines before in
      let mesh = frames_mesh options (mesh_lines words) in
      either-answer (has_frames words) _ _ (unless (frame_fault options.depth mesh (suc (length before)) line) _ (frame-fault options.depth mesh (suc (length before)) line))
      (either-answer (is_frames_line (words_after before line)) _ _ (unless (frames_refusal options words) [] (frames-refusal options words)) (unless None [] tt));
  unclosed = λ before bytes.
      either-fault (has_frames (words_of_lines before) && nat_lt line_limit (length bytes)) (Some (Obj (record { line = suc (length before); cause = LongLine }))) None tt tt;
  end = λ before. unless _ [] (either-fault (has_frames (words_of_lines before)) _ _ tt (frames-refusal options (words_of_lines before)));
}

then-is : (first : Option Fault) (text : List ℕ) (next : Answer) → IsOfLines first → IsOfLines next.refusal → IsOfLines (answer_unless_refused first text next).refusal
then-is None text next one other = other
then-is (Some fault) text next one other = one

then-long : (first : Option Fault) (text : List ℕ) → IsOfLines first → IsOfInput (answer_unless_refused first text (refused Long)).refusal
then-long None text one = inr refl
then-long (Some fault) text one = inl one

module _ {rule : LineRule} (is : RefusesLines rule) where
  from-is : (end : List (List ℕ) → Answer) → ((before : List (List ℕ)) → IsOfLines (end before).refusal) → (before lines : List (List ℕ))
      → IsOfLines (answer_from rule end before lines).refusal
  from-is end ends before [] = ends before
  from-is end ends before (line ∷ lines) =
      then-is (rule.line before line).refusal (rule.line before line).text (answer_from rule end (before ++ (line ∷ [])) lines) (is.line before line)
      (from-is end ends (before ++ (line ∷ [])) lines)

  end-is : (last : List ℕ) (before : List (List ℕ)) → IsOfLines (answer_at_end rule last before).refusal
  end-is [] before = is.end before
  end-is (b ∷ bytes) before =
      then-is (rule.line before (b ∷ bytes)).refusal (rule.line before (b ∷ bytes)).text (rule.end (before ++ ((b ∷ bytes) ∷ []))) (is.line before (b ∷ bytes))
      (is.end (before ++ ((b ∷ bytes) ∷ [])))

  so-far-is : (bytes : List ℕ) → IsOfLines (answer_so_far rule bytes).refusal
  so-far-is bytes = from-is _ (λ before. unless (rule.unclosed before (unclosed_of bytes)) [] (is.unclosed before (unclosed_of bytes))) [] (closed_of bytes)

  all-is : (bytes : List ℕ) → IsOfLines (answer_of_all rule bytes).refusal
  all-is bytes = from-is _ (end-is (unclosed_of bytes)) [] (closed_of bytes)

  -- the refusal of an input has its cause in the lines
  pub input-is : (limit : ℕ) (bytes : List ℕ) → IsOfInput (answer_of_lines rule limit bytes).refusal
  input-is limit bytes = by (nat_lt limit (length bytes))
    where
      by : (long : Bool) → IsOfInput (if long then then_answer (answer_so_far rule (take limit bytes)) (refused Long) else answer_of_all rule bytes).refusal
      by true = then-long (answer_so_far rule (take limit bytes)).refusal (answer_so_far rule (take limit bytes)).text (so-far-is (take limit bytes))
      by false = inl (all-is bytes)

-- this excludes the faults of streams and of memory
module _ {refusal : Option Fault} where
  pub not-usage : IsOfLines refusal → (word : ℕ) → refusal ≡ Some (Usage word) → ⊥
  not-usage is word e = subst IsOfLines e is

  pub not-read : IsOfLines refusal → refusal ≡ Some Read → ⊥
  not-read is e = subst IsOfLines e is

  pub not-long : IsOfLines refusal → refusal ≡ Some Long → ⊥
  not-long is e = subst IsOfLines e is

  pub not-write : IsOfLines refusal → refusal ≡ Some Write → ⊥
  not-write is e = subst IsOfLines e is

  pub not-memory : IsOfLines refusal → refusal ≡ Some Memory → ⊥
  not-memory is e = subst IsOfLines e is

  pub input-not-read : IsOfInput refusal → refusal ≡ Some Read → ⊥
  input-not-read (inl is) e = not-read is e
  input-not-read (inr is) e = cc

  pub input-not-write : IsOfInput refusal → refusal ≡ Some Write → ⊥
  input-not-write (inl is) e = not-write is e
  input-not-write (inr is) e = cc

  pub input-not-memory : IsOfInput refusal → refusal ≡ Some Memory → ⊥
  input-not-memory (inl is) e = not-memory is e
  input-not-memory (inr is) e = cc
