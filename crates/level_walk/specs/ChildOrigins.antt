-- The origins of a child of a level, whole or in part, from the origins of its points and faces in the level.
use Rattle.std.specs.Prelude.{ℕ, ◌≡◌, ◌^◌, ◌≤◌, length, map, get_or}
use Rattle.subdiv_model.specs.Edges.{edges_of}
use Rattle.subdiv_model.specs.Level.{Level}
use Rattle.level_topology.specs.Child.{ChildTopology}
use Rattle.level_topology.specs.ChildLaws.{point_origin}
use Rattle.level_walk.specs.Origins.{Origin, Origins, origin_of_part, part_of_edge}

-- the level has one origin for each point, edge and face
pub record AreOrigins (level : Level) (origins : Origins) : Type 0 where
  pub points : length origins.points ≡ level.point_count
  pub edges : length origins.edges ≡ length (edges_of level.polygons)
  pub faces : length origins.faces ≡ length level.polygons

-- the counts of the origins fit 32 bits
pub record AreFew (origins : Origins) : Type 0 where
  pub points : length origins.points ≤ 2 ^ 30
  pub faces : length origins.faces ≤ 2 ^ 22

-- there is an origin for each part of the parent
pub record AreOfParent (child : ChildTopology) (origins : Origins) : Type 0 where
  pub points : length origins.points ≡ child.parent_points
  pub edges : length origins.edges ≡ child.parent_edges
  pub faces : length origins.faces ≡ length child.parent_sizes

abbrev pub origin_of_child_edge : ChildTopology → Origins → ℕ × ℕ → Origin
origin_of_child_edge child before edge = origin_of_part before (part_of_edge (point_origin child edge.0) (point_origin child edge.1))

-- the origins of a child, from those of its parent
abbrev pub child_origins : ChildTopology → Origins → Origins
child_origins child before = record {
  points = map (origin_of_part before) child.origins;
  edges = map (origin_of_child_edge child before) (edges_of child.topology.level.polygons);
  faces = map (λ place. get_or before.faces place.0 0) child.places;
}
