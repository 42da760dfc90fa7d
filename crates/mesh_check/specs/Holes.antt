-- The faces that are hidden with the boundary, and the points that hide them.
use Rattle.std.specs.Prelude.{ℕ, Bool, false, List}
use Rattle.std.specs.List.{list_any}
use Rattle.subdiv_model.specs.Edges.{has_end}
use Rattle.subdiv_model.specs.Boundary.{Boundary, Hidden, EdgeOnly, EdgeAndCorner}

-- the point hides its faces: the boundary mode hides them, and the point is an end of a side at the boundary
abbrev pub is_hiding : Boundary → List (ℕ × ℕ) → ℕ → Bool
is_hiding Hidden sides v = list_any (has_end v) sides
is_hiding EdgeOnly sides v = false
is_hiding EdgeAndCorner sides v = false
