-- Marked points.
use Rattle.std.specs.Prelude.{ℕ, ◌≡◌, ◌<◌, Bool, false, List, length, get_or}
use Rattle.subdiv_model.specs.Polygons.{is_among}

-- a point has a mark exactly if the list contains it
abbrev pub AreMarked : List ℕ → List Bool → Type 0
AreMarked points marks = (n : ℕ) → n < length marks → get_or marks n false ≡ is_among points n
