-- The places of each number in a sequence of lists.
use Rattle.std.specs.Prelude.{ℕ, List, [], ◌∷◌}
use Rattle.std.specs.List.{flat_map}
use Rattle.subdiv_model.specs.Polygons.{Polygon, has_corner}
use Rattle.subdiv_model.specs.Lists.{places}

-- The items of all lists.
abbrev pub joined : List Polygon → List ℕ
joined lists = flat_map (λ list. list) lists

-- The numbers of the lists that contain a number.
abbrev pub lists_with : List Polygon → ℕ → List ℕ
lists_with lists v = places (has_corner v) lists

-- The ends of an edge as a list.
abbrev pub pair_list : ℕ × ℕ → List ℕ
pair_list edge = edge.0 ∷ (edge.1 ∷ [])
