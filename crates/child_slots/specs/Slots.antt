-- The slots of the edges of the next level. The two halves of each edge come first. Then each corner of a face has a slot.
-- It is that of the edge inside the face that begins at the point of the edge after the corner.
use Rattle.std.specs.Prelude.{ℕ, ◌+◌, ◌-◌, ◌*◌, nat_eq, List, [], ◌∷◌, length, get_or, take, if◌then◌else◌}
use Rattle.std.specs.List.{sum_by}
use Rattle.subdiv_model.specs.Polygons.{Polygon, polygon_at}
use Rattle.subdiv_model.specs.Edges.{edges_of}
use Rattle.subdiv_model.specs.Child.{face_point}
use Rattle.level_topology.specs.Topology.{face_edges_of, corner_before, end_of}

-- the number of corners of the faces before this one, which is the number of its first child face
abbrev pub first_child : List Polygon → ℕ → ℕ
first_child polygons f = sum_by length (take f polygons)

-- the corner of a face before another
abbrev pub before_in : List Polygon → ℕ → ℕ → ℕ
before_in polygons f c = corner_before (length (polygon_at polygons f)) c

-- a corner of a face and the number of the edge after it
abbrev pub corner_at : List Polygon → ℕ → ℕ → ℕ
corner_at polygons f c = get_or (polygon_at polygons f) c 0

abbrev pub edge_from : List Polygon → ℕ → ℕ → ℕ
edge_from polygons f c = get_or (face_edges_of polygons (polygon_at polygons f)) c 0

-- the slot of the half of an edge at an end
abbrev pub half_slot : List Polygon → ℕ → ℕ → ℕ
half_slot polygons v e = 2 * e + end_of polygons v e

-- the slot of the edge inside a face that begins at the point of the edge after a corner
abbrev pub inner_slot : List Polygon → ℕ → ℕ → ℕ
inner_slot polygons f c = 2 * length (edges_of polygons) + (first_child polygons f + c)

abbrev pub slot_count : List Polygon → ℕ
slot_count polygons = 2 * length (edges_of polygons) + sum_by length polygons

-- the number of the point of an edge in the next level
abbrev pub numbered_edge_point : ℕ → List Polygon → ℕ → ℕ
numbered_edge_point points polygons e = points + length polygons + e

-- the child face of a corner
abbrev pub quad_at : ℕ → List Polygon → ℕ → ℕ → Polygon
quad_at points polygons f c =
    corner_at polygons f c
    ∷ numbered_edge_point points polygons (edge_from polygons f c)
    ∷ face_point points f
    ∷ numbered_edge_point points polygons (edge_from polygons f (before_in polygons f c))
    ∷ []

-- the slots of the sides of the child face of a corner
abbrev pub slots_at : List Polygon → ℕ → ℕ → List ℕ
slots_at polygons f c =
    half_slot polygons (corner_at polygons f c) (edge_from polygons f c)
    ∷ inner_slot polygons f c
    ∷ inner_slot polygons f (before_in polygons f c)
    ∷ half_slot polygons (corner_at polygons f c) (edge_from polygons f (before_in polygons f c))
    ∷ []

-- the corners of a face, turned to begin at another corner
abbrev pub turn_at : ℕ → ℕ → ℕ
turn_at size i = if nat_eq i 0 then 0 else size - i
