-- The lines of a frame: the number of changed points, and each of these points with its number.
-- Source: this profile.
use Rattle.std.specs.Prelude.{ℕ, List, [], ◌∷◌, codes}
use Rattle.ratio128.specs.declared.point.Point3.{Point3}
use Rattle.ratio128.specs.declared.valued.Valued.{Valued}
use Rattle.subdiv_model.specs.Refined.{Point}
use Rattle.subdiv_model.specs.NumberText.{number_text}
use Rattle.subdiv_model.specs.Text.{line_text, point_words}
use Rattle.far_text.specs.Points.{point_of}

-- the first line of a frame with this number of changed points
abbrev pub frame_line : ℕ → List ℕ
frame_line count = line_text (codes "frame") (number_text count ∷ [])

-- the number of a point, counted from 0, and its coordinates in lowest terms
abbrev pub changed_line : ℕ → Point → List ℕ
changed_line number point = line_text (codes "p") (number_text number ∷ point_words point)

-- the line of a changed point, whose numerators are over its denominator times the common one
abbrev pub valued_changed_line : ℕ → ℕ → Valued Point3 → List ℕ
valued_changed_line common number p = changed_line number (point_of common p)
