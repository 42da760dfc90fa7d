-- Levels that are part of others: some of the faces, with the same marks and the same sharpness.
-- Source: Drillolive.
use Rattle.std.specs.Prelude.{◌≡◌, ℕ, ◌<◌, List, length, map, IsTrue}
use Rattle.std.specs.List.{list_any}
use Rattle.subdiv_model.specs.Polygons.{same_edge}
use Rattle.subdiv_model.specs.Edges.{edges_of}
use Rattle.subdiv_model.specs.Sharpness.{uniform_child}
use Rattle.subdiv_model.specs.Rule.{child_ring, transition_weight}
use Rattle.subdiv_model.specs.Level.{Level, edge_sharpness_of, vertex_sharpness_of, is_hole, ring_at}
use Rattle.part_laws.specs.Parts.{IsPart, IsWholeAt, is_corner, renamed, face_in}
use Rattle.part_laws.specs.Laws.{Part, PartEdge, WholePoint, WholeEdge}

-- The polygons of `part` are part of those of `whole`. Both levels have the same method, and the same holes and sharpness at the
-- faces, edges and corners of the part.
pub record IsLevelPart (name : ℕ → ℕ) (faces : List ℕ) (part whole : Level) : Type 0 where
  pub polygons : IsPart name faces part.polygons whole.polygons
  pub method : part.method ≡ whole.method
  pub holes : (k : ℕ) → k < length part.polygons → is_hole part k ≡ is_hole whole (face_in faces k)
  pub edges : (edge : ℕ × ℕ) → IsTrue (list_any (same_edge edge) (edges_of part.polygons))
      → edge_sharpness_of part edge ≡ edge_sharpness_of whole (renamed name edge)
  pub vertices : (p : ℕ) → IsTrue (is_corner part.polygons p) → vertex_sharpness_of part p ≡ vertex_sharpness_of whole (name p)

-- the weight of the transition of a point between its level and the next
abbrev pub weight_at : Level → ℕ → ℕ × ℕ
weight_at level v =
    let vertex = vertex_sharpness_of level v in
    let ring = ring_at level v in transition_weight vertex (uniform_child vertex) ring (child_ring level.method ring)

-- a level that is part of another, with the names of its points and the numbers of its faces
pub record LevelPart : Type 0 where
  pub name : ℕ → ℕ
  pub faces : List ℕ
  pub level : Level
  pub whole : Level
  pub is_part : IsLevelPart name faces level whole

-- the polygons of the part
abbrev pub polygons_of : LevelPart → Part
polygons_of part = record {
  name = part.name;
  faces = part.faces;
  polygons = part.level.polygons;
  whole = part.whole.polygons;
  is_part = part.is_part.polygons;
}

-- corners of a part at which it has all faces
abbrev pub WholePointOf : LevelPart → Type 0
WholePointOf part = WholePoint (polygons_of part)

-- edges of a part along which it has all faces
abbrev pub WholeEdgeOf : LevelPart → Type 0
WholeEdgeOf part = WholeEdge (polygons_of part)

-- edges of a part
abbrev pub EdgeOf : LevelPart → Type 0
EdgeOf part = PartEdge (polygons_of part)

-- a part of a level that is itself part of another
pub record PartOfPart : Type 0 where
  pub part : LevelPart
  pub name : ℕ → ℕ
  pub faces : List ℕ
  pub whole : Level
  pub is_part : IsLevelPart name faces part.whole whole

-- the names of the points in the last level
abbrev pub last_name : PartOfPart → ℕ → ℕ
last_name both p = both.name (both.part.name p)

-- the numbers of the faces in the last level
abbrev pub last_faces : PartOfPart → List ℕ
last_faces both = map (face_in both.faces) both.part.faces

-- the faces are all faces of the last level at a point of the first part
abbrev pub IsWholeIn : PartOfPart → List ℕ → ℕ → Type 0
IsWholeIn both faces p = IsWholeAt faces both.whole.polygons (last_name both p)
