-- Parts, and points and edges at which a part has all faces, for the laws of parts.
use Rattle.std.specs.Prelude.{ℕ, nat_lt, List, length, map, IsTrue}
use Rattle.std.specs.List.{list_all, list_any}
use Rattle.subdiv_model.specs.Polygons.{Polygon, same_edge}
use Rattle.subdiv_model.specs.Edges.{edges_of, edges_of_point}
use Rattle.subdiv_model.specs.Mask.{other_end}
use Rattle.part_laws.specs.Parts.{IsPart, IsWholeAt, IsWholeAlong, is_corner, renamed}

-- polygons that are part of others, with the names of their points and the numbers of the polygons
pub record Part : Type 0 where
  pub name : ℕ → ℕ
  pub faces : List ℕ
  pub polygons : List Polygon
  pub whole : List Polygon
  pub is_part : IsPart name faces polygons whole

-- a corner of the part where the part has all polygons of the whole
pub record WholePoint (part : Part) : Type 0 where
  pub point : ℕ
  pub is_there : IsTrue (is_corner part.polygons point)
  pub has_all : IsWholeAt part.faces part.whole (part.name point)

-- the name of the point
abbrev pub name_of : {part : Part} → WholePoint part → ℕ
name_of {part} at = part.name at.point

-- an edge of the part, named in either direction
pub record PartEdge (part : Part) : Type 0 where
  pub edge : ℕ × ℕ
  pub is_edge : IsTrue (list_any (same_edge edge) (edges_of part.polygons))

-- some faces of the part, by their numbers
pub record PartFaces (part : Part) : Type 0 where
  pub faces : List ℕ
  pub inside : IsTrue (list_all (λ k. nat_lt k (length part.polygons)) faces)

-- an edge of the part, named in either direction, along which the part has all polygons of the whole
pub record WholeEdge (part : Part) : Type 0 where
  pub edge : ℕ × ℕ
  pub is_edge : IsTrue (list_any (same_edge edge) (edges_of part.polygons))
  pub has_all : IsWholeAlong part.faces part.whole (renamed part.name edge)

-- the edge with the names of its ends
abbrev pub edge_in : {part : Part} → WholeEdge part → ℕ × ℕ
edge_in {part} along = renamed part.name along.edge

-- the other ends of the edges at a point
abbrev pub other_ends_at : List Polygon → ℕ → List ℕ
other_ends_at polygons v = map (other_end v) (edges_of_point polygons v)
