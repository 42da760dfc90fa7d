-- The lists at a point of the next level, and the child faces and edges at the point of a face.
use Rattle.std.specs.Prelude.{ℕ, ◌+◌, true, List, map, length}
use Rattle.std.specs.List.{range_with_len}
use Rattle.subdiv_model.specs.Polygons.{Polygon, polygon_at}
use Rattle.subdiv_model.specs.Level.{Level}
use Rattle.child_slots.specs.Slots.{first_child, inner_slot, turn_at}
use Rattle.child_slots.specs.Slotted.{number_at}
use Rattle.level_topology.specs.PointRows.{IsRow}
use Rattle.level_topology.specs.declared.point_lists.PointLists.{PointLists}
use Rattle.uniform_refiner.specs.Points.{children_of}

-- the row has the lists at this point of the next level, where all points are complete
abbrev pub IsChildRow : Level → ℕ → PointLists → Type 0
IsChildRow level v row = IsRow (children_of level) v true row.faces.items row.faces_at.items row.edges.items row.edges_at.items

-- the child faces of a face in the order of the fan at its point
abbrev pub turned_children : List Polygon → ℕ → List ℕ
turned_children polygons f =
    map (λ i. first_child polygons f + turn_at (length (polygon_at polygons f)) i) (range_with_len 0 (length (polygon_at polygons f)))

-- the numbers of the edges inside a face in the order of the fan at its point, by the slots of all edges
abbrev pub turned_inner_edges : List ℕ → List Polygon → ℕ → List ℕ
turned_inner_edges slots polygons f =
    map (λ i. number_at slots (inner_slot polygons f (turn_at (length (polygon_at polygons f)) i))) (range_with_len 0 (length (polygon_at polygons f)))
