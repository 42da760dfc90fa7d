-- A level as flat lists.
use Rattle.std.specs.Prelude.{ℕ, Bool, List, [], ◌∷◌, map, if◌then◌else◌}
use Rattle.std.specs.List.{flat_map}
pub use Rattle.subdiv_model.specs.Sparse.{corners_of}

-- Both ends of each edge, edge by edge.
abbrev pub ends_of : List (ℕ × ℕ) → List ℕ
ends_of edges = flat_map (λ edge. edge.0 ∷ (edge.1 ∷ [])) edges

-- 1 for true, and 0 for false.
abbrev pub mark_of : Bool → ℕ
mark_of mark = if mark then 1 else 0

-- 1 for each true, and 0 for each false.
abbrev pub marks_of : List Bool → List ℕ
marks_of marks = map mark_of marks
