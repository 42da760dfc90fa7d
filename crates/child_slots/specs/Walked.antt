-- The edges of a part of the next level, while its faces are visited in order.
use Rattle.std.specs.Prelude.{ℕ, ◌≡◌, ◌<◌, ◌⊎◌, true, List, [], length, map, take, get_or}
use Rattle.subdiv_model.specs.Polygons.{Polygon, polygon_at, same_edge}
use Rattle.subdiv_model.specs.Edges.{edges_of, has_end}
use Rattle.subdiv_model.specs.Child.{face_point}
use Rattle.subdiv_model.specs.Sharpness.{Smooth}
use Rattle.subdiv_model.specs.Level.{Level}
use Rattle.level_topology.specs.Topology.{edge_at}
use Rattle.child_slots.specs.Slots.{half_slot, inner_slot, slot_count, numbered_edge_point, edge_from}
use Rattle.child_slots.specs.Slotted.{Slotted}
use Rattle.level_topology.specs.Numbering.{Numbered, numbered, IsNumbering}
use Rattle.child_slots.specs.Parts.{Part, IsPart, part_polygons, renumbered}

-- the slot is that of a half of an edge, and the side is that half, in either direction
pub record IsHalf (points : ℕ) (polygons : List Polygon) (slot : ℕ) (side : ℕ × ℕ) : Type 0 where
  pub edge : ℕ
  pub end : ℕ
  pub exists : edge < length (edges_of polygons)
  pub ends : has_end end (edge_at polygons edge) ≡ true
  pub slot_is : slot ≡ half_slot polygons end edge
  pub side_is : same_edge side (end, numbered_edge_point points polygons edge) ≡ true

-- the slot is that of an edge inside a face, and the side is that edge
pub record IsInner (points : ℕ) (polygons : List Polygon) (slot : ℕ) (side : ℕ × ℕ) : Type 0 where
  pub face : ℕ
  pub corner : ℕ
  pub exists : corner < length (polygon_at polygons face)
  pub slot_is : slot ≡ inner_slot polygons face corner
  pub side_is : same_edge side (numbered_edge_point points polygons (edge_from polygons face corner), face_point points face) ≡ true

abbrev pub IsSlot : ℕ → List Polygon → ℕ → ℕ × ℕ → Type 0
IsSlot points polygons slot side = IsHalf points polygons slot side ⊎ IsInner points polygons slot side

-- the slot is that of a side of the whole next level; the part has its ends, and the side has the part's numbers
pub record IsPartSlot (points : ℕ) (polygons : List Polygon) (p : Part) (slot : ℕ) (side : ℕ × ℕ) : Type 0 where
  pub whole : ℕ × ℕ
  pub slot_is : IsSlot points polygons slot whole
  pub first : p.has whole.0 ≡ true
  pub second : p.has whole.1 ≡ true
  pub side_is : side ≡ renumbered p.number whole

-- the edges without their slots, all smooth
abbrev pub numbered_of : Slotted → Numbered
numbered_of n = numbered n.ends n.faces (map (λ end. Smooth) n.ends) 0

-- the edges are those of the part's first faces, and each has its slot
pub record IsWalked (points : ℕ) (polygons : List Polygon) (p : Part) (count : ℕ) (n : Slotted) : Type 0 where
  pub part : IsPart points polygons p
  pub numbering : IsNumbering (take count (part_polygons points polygons p)) [] (numbered_of n)
  pub slots : (e : ℕ) → e < length n.ends → IsPartSlot points polygons p (get_or n.slots e 0) (get_or n.ends e (0, 0))
  pub listed : length n.slots ≡ length n.ends
  pub count_is : n.count ≡ slot_count polygons

-- the edges are all those of the part
abbrev pub ArePartEdges : Level → Part → Slotted → Type 0
ArePartEdges level p edges = IsWalked level.point_count level.polygons p (length p.places) edges
