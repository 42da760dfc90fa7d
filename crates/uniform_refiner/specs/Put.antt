-- The lists of the next level, while they are made.
use Rattle.std.specs.Prelude.{ℕ, ◌≡◌, ◌<◌, true, false, List, [], ◌∷◌, get_or, map, take}
use Rattle.subdiv_model.specs.Edges.{edges_of, faces_of_edge}
use Rattle.subdiv_model.specs.Child.{child_polygons, child_holes, child_edge_sharpness}
use Rattle.subdiv_model.specs.Level.{Level}
use Rattle.subdiv_model.specs.Sharpness.{Sharpness}
use Rattle.subdiv_model.specs.Channel.{chaikin_overflows_at}
use Rattle.level_topology.specs.Topology.{Topology, face_edges_of}
use Rattle.level_topology.specs.Rows.{Rows}
use Rattle.child_slots.specs.Slotted.{Slotted, number_at}
use Rattle.child_slots.specs.Walked.{ArePartEdges}
use Rattle.child_slots.specs.HalfTable.{HasHalves}
use Rattle.uniform_refiner.specs.Uniform.{whole_part}

-- the edges are all those of the next level
abbrev pub AreChildEdges : Level → Slotted → Type 0
AreChildEdges level edges = ArePartEdges level (whole_part level.polygons) edges

-- each half has its sharpness at its slot
abbrev pub HasAllHalves : Level → List Sharpness → Type 0
HasAllHalves level halves = HasHalves level (λ v. true) halves

-- all halves are written, and none overflows
pub record AreFineHalves (t : Topology) (halves : List Sharpness) : Type 0 where
  pub put : HasAllHalves t.level halves
  pub fine : (v : ℕ) → v < t.level.point_count → chaikin_overflows_at t.level v ≡ false

-- the numbers of the edges with four slots
abbrev pub four_numbers : List ℕ → List ℕ → List ℕ
four_numbers all slots =
    number_at all (get_or slots 0 0) ∷ number_at all (get_or slots 1 0) ∷ number_at all (get_or slots 2 0) ∷ number_at all (get_or slots 3 0) ∷ []

-- the lists with the first child faces, none of which was there before
abbrev pub with_children : Level → ℕ → Rows → Rows
with_children level count rows = record rows {
  face_vertices = take count (child_polygons level.point_count level.polygons);
  face_edges = map (face_edges_of (child_polygons level.point_count level.polygons)) (take count (child_polygons level.point_count level.polygons));
  holes = take count (child_holes level);
}

-- the lists with the first edges, none of which was there before
abbrev pub with_child_edges : Level → ℕ → Rows → Rows
with_child_edges level count rows = record rows {
  edge_vertices = take count (edges_of (child_polygons level.point_count level.polygons));
  edge_faces = take count (map (faces_of_edge (child_polygons level.point_count level.polygons)) (edges_of (child_polygons level.point_count level.polygons)));
  edge_sharpness = take count (child_edge_sharpness level);
}
