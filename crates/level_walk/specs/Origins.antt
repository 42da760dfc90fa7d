-- The part of level 0 on which each point, each edge and each face of a later level lies. Source: this library.
use Rattle.std.specs.Prelude.{ℕ, zero, suc, List, ◌++◌, length, map, replicate, get_or}
use Rattle.std.specs.List.{flat_map, range_with_len, enumerate_from}
use Rattle.subdiv_model.specs.Edges.{edges_of}
use Rattle.subdiv_model.specs.Level.{Level}
use Rattle.subdiv_model.specs.Child.{child_polygons, refined_level}
use Rattle.level_topology.specs.Child.{PointOrigin, FromVertex, FromFace, FromEdge}
use Rattle.level_topology.specs.ChildTables.{numbered_origin}

-- a point, the inside of an edge, or the inside of a face, by its number in level 0
pub data Origin : Type 0 where
  OnPoint : ℕ → Origin
  OnEdge : ℕ → Origin
  OnFace : ℕ → Origin

-- the number of that point, edge or face
abbrev pub number_of : Origin → ℕ
number_of (OnPoint v) = v
number_of (OnEdge e) = e
number_of (OnFace f) = f

-- the origin of each point and of the inside of each edge, and the face of level 0 that each face is part of
pub record Origins : Type 0 where
  pub points : List Origin
  pub edges : List Origin
  pub faces : List ℕ

-- the origins of level 0: each part is its own
abbrev pub base_origins : Level → Origins
base_origins base = record {
  points = map OnPoint (range_with_len 0 base.point_count);
  edges = map OnEdge (range_with_len 0 (length (edges_of base.polygons)));
  faces = range_with_len 0 (length base.polygons);
}

-- the origin of the new point of a part of a level, which is that of the part
abbrev pub origin_of_part : Origins → PointOrigin → Origin
origin_of_part before (FromVertex v) = get_or before.points v (OnPoint 0)
origin_of_part before (FromFace f) = OnFace (get_or before.faces f 0)
origin_of_part before (FromEdge e) = get_or before.edges e (OnEdge 0)

-- An edge of the next level joins two new points, one of them the point of an edge. It lies inside a face if the other is the
-- face's point, and on the edge if the other is a point of the level.
abbrev pub part_of_edge : PointOrigin → PointOrigin → PointOrigin
part_of_edge (FromFace f) other = FromFace f
part_of_edge (FromVertex v) other = other
part_of_edge (FromEdge e) (FromFace f) = FromFace f
part_of_edge (FromEdge e) (FromVertex v) = FromEdge e
part_of_edge (FromEdge e) (FromEdge d) = FromEdge e

-- the part of a level that a point of the next one comes from
abbrev pub part_of_point : Level → ℕ → PointOrigin
part_of_point level p = numbered_origin level.point_count (length level.polygons) p

abbrev pub origin_of_edge : Level → Origins → ℕ × ℕ → Origin
origin_of_edge level before edge = origin_of_part before (part_of_edge (part_of_point level edge.0) (part_of_point level edge.1))

-- The origins of the next level from those of a level. Its points are those of vertices, faces and edges. Each child face has
-- the origin of its parent.
abbrev pub next_origins : Level → Origins → Origins
next_origins level before = record {
  points = before.points ++ (map OnFace before.faces ++ before.edges);
  edges = map (origin_of_edge level before) (edges_of (child_polygons level.point_count level.polygons));
  faces = flat_map (λ face. replicate (length face.1) (get_or before.faces face.0 0)) (enumerate_from 0 level.polygons);
}

-- the origins of the level after k steps
abbrev pub origins_to : Level → ℕ → Origins
origins_to base zero = base_origins base
origins_to base (suc k) = next_origins (refined_level base k) (origins_to base k)
