-- The request of a line of `frames`.
use Rattle.std.specs.Prelude.{ℕ, ◌≡◌, ◌<◌, ◌∷◌, [], true, false, not, nat_le, List, drop, Option, Some, None, if◌then◌else◌}
use Rattle.subdiv_model.specs.Digits.{number_of_digits}
use Rattle.far_model.specs.Frames.{is_move_line, is_go_line, moved_index, moved_point, coordinate_fault, frame_cause}
use Rattle.subdiv_model.specs.Numeral.{are_digits}
use Rattle.subdiv_model.specs.ObjFault as fault
use Rattle.subdiv_model.specs.ObjLine.{line_words}
use Rattle.subdiv_model.specs.ObjWord.{number_over}
use Rattle.subdiv_model.specs.Short.{IsShortPoint}
use Rattle.ratio128.specs.declared.point.Point3.{Point3}
use Rattle.raw_mesh.specs.View.{point_of}
use Rattle.table_answers.specs.declared.move_words.MoveWords.{MoveWords}
use Rattle.table_answers.specs.declared.frame_line.FrameLine.{FrameLine}
use Rattle.table_answers.specs.declared.frame_line.FrameLine.TheVariants.{Empty, Move, Go}

-- The words are a move of this control point to this point.
pub record IsMove (count common : ℕ) (words : List (List ℕ)) (place : ℕ) (target : Point3) : Type 0 where
  pub keyword : is_move_line words ≡ true
  pub index : place ≡ moved_index words
  pub below : place < count
  pub point : point_of target ≡ moved_point common words
  pub short : IsShortPoint (point_of target)

-- The words of a line make this request.
abbrev pub Asks : ℕ → ℕ → List (List ℕ) → FrameLine → Type 0
Asks count common words Empty = words ≡ []
Asks count common words (Move index point) = IsMove count common words index point
Asks count common words Go = (is_go_line words ≡ true) × (is_move_line words ≡ false)

-- A line without a fault makes this request.
abbrev pub IsFrameLine : ℕ → ℕ → List ℕ → FrameLine → Type 0
IsFrameLine count common line read = (frame_cause count common line ≡ None) × Asks count common (line_words line) read

-- The first four words of a list.
abbrev pub AreFirst : MoveWords → List (List ℕ) → Type 0
AreFirst four words = words ≡ four.index.now ∷ (four.x.now ∷ (four.y.now ∷ (four.z.now ∷ drop 4 words)))

-- The fault of the word that names a control point.
abbrev pub index_cause : ℕ → List ℕ → Option fault.ObjCause
index_cause count word =
    if not (are_digits word) then Some fault.BadNumeral else if nat_le count (number_of_digits word) then Some fault.MoveIndex else None

-- The first fault of the coordinates of a move.
abbrev pub point_cause : ℕ → MoveWords → Option fault.ObjCause
point_cause common words = fault.first_cause (coordinate_fault common) (words.x.now ∷ (words.y.now ∷ (words.z.now ∷ [])))

-- The point of these words over the common denominator.
pub record IsPointOf (common : ℕ) (target : Point3) (words : MoveWords) : Type 0 where
  pub point : point_of target ≡ (number_over common words.x.now, number_over common words.y.now, number_over common words.z.now)
  pub short : IsShortPoint (point_of target)
