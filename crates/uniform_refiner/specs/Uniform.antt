-- The next uniform level as a child: all points and all faces.
use Rattle.std.specs.Prelude.{ℕ, ◌≡◌, ◌+◌, true, List, [], ◌∷◌, ◌++◌, length, map, replicate}
use Rattle.std.specs.List.{range_with_len}
use Rattle.subdiv_model.specs.Polygons.{Polygon}
use Rattle.subdiv_model.specs.Edges.{edges_of}
use Rattle.subdiv_model.specs.Child.{child_level, child_points}
use Rattle.level_topology.specs.Topology.{Topology}
use Rattle.level_topology.specs.Child.{PointOrigin, ChildTopology, child_of}
use Rattle.level_topology.specs.ChildTables.{numbered_origin}
use Rattle.child_slots.specs.Parts.{Part, part}

-- the origins of all points: the vertices of the parent, then its faces, then its edges
abbrev pub all_origins : ℕ → ℕ → ℕ → List PointOrigin
all_origins points faces edges = map (numbered_origin points faces) (range_with_len 0 (points + faces + edges))

-- the places of all faces: the corners of each face, from the face with the number `face` on
abbrev pub all_places : ℕ → List Polygon → List (ℕ × ℕ)
all_places face [] = []
all_places face (polygon ∷ polygons) = map (λ c. (face, c)) (range_with_len 0 (length polygon)) ++ all_places (face + 1) polygons

-- the next level as a part: the faces of all places, and all points with their own numbers
abbrev pub whole_part : List Polygon → Part
whole_part polygons = part (all_places 0 polygons) (λ n. true) (λ n. n)

abbrev pub origins_in : Topology → List PointOrigin
origins_in t = all_origins t.level.point_count (length t.level.polygons) (length (edges_of t.level.polygons))

-- the child is the whole next level, and all its points are complete
pub record IsUniform (parent : Topology) (child : ChildTopology) : Type 0 where
  pub of : child ≡ child_of parent child.topology (origins_in parent) (all_places 0 parent.level.polygons)
  pub level : child.topology.level ≡ child_level parent.level
  pub complete : child.topology.complete ≡ replicate (child_points parent.level.point_count parent.level.polygons) true
