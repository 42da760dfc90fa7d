-- The marks by which control points of a row are counted once.
use Rattle.std.specs.Prelude.{ℕ, ◌≡◌, ◌≤◌, List, [], ◌∷◌, length, set}
use Rattle.std.specs.List.{All}
use Rattle.stencil_apply.specs.Table.{Table, row_at}
use Rattle.stencil_factory.specs.Rows.{support_of}

-- The marks after writing `mark` at each of the places.
abbrev pub marked_all : ℕ → List ℕ → List ℕ → List ℕ
marked_all mark [] marks = marks
marked_all mark (place ∷ places) marks = marked_all mark places (set marks place mark)

-- The marks after writing `mark` at each control point in the rows of the points.
abbrev pub marked_rows : Table → ℕ → List ℕ → List ℕ → List ℕ
marked_rows table mark [] marks = marks
marked_rows table mark (point ∷ points) marks =
    marked_rows table mark points (marked_all mark (support_of (row_at table point).shares) marks)

-- There is one mark for each control point, and none is above `most`.
pub record AreMarks (controls most : ℕ) (marks : List ℕ) : Type 0 where
  pub count : length marks ≡ controls
  pub below : All (λ mark. mark ≤ most) marks
