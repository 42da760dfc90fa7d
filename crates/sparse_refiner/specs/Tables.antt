-- The tables of a part of the next level, while they are made.
use Rattle.std.specs.Prelude.{ℕ, ◌≡◌, ◌*◌, Bool, List, [], ◌∷◌, length, map, take, get_or}
use Rattle.subdiv_model.specs.Sharpness.{Sharpness, Smooth}
use Rattle.subdiv_model.specs.Level.{Level, vertex_sharpness_of, is_hole}
use Rattle.subdiv_model.specs.Child.{child_level}
use Rattle.sharpness_rules.specs.View.{sharpness_of}
use Rattle.level_topology.specs.Packed.{Paired, paired}
use Rattle.level_topology.specs.Topology.{face_edges_of}
use Rattle.child_slots.specs.Slotted.{number_at}
use Rattle.child_slots.specs.Parts.{Part, part_polygons}
use Rattle.sparse_refiner.specs.declared.tables.PartTables.{PartTables}

-- the sharpness of the edge with a slot: that of its half, or smooth inside a face
abbrev pub slot_sharpness : List Sharpness → ℕ → Sharpness
slot_sharpness halves slot = get_or halves slot Smooth

-- the sharpness of the point with a number in the whole next level
abbrev pub child_sharpness : Level → ℕ → Sharpness
child_sharpness level n = vertex_sharpness_of (child_level level) n

-- the child face of a place is a hole where its parent is
abbrev pub hole_at : Level → ℕ × ℕ → Bool
hole_at level place = is_hole level place.0

-- the numbers of the edges at the sides of a child face, found by their slots
abbrev pub side_numbers : List ℕ → List ℕ → List ℕ
side_numbers slots sides = number_at slots (get_or sides 0 0) ∷ number_at slots (get_or sides 1 0) ∷ number_at slots (get_or sides 2 0) ∷ number_at slots (get_or sides 3 0) ∷ []

-- the first faces of a part, with the numbers of their edges
abbrev pub first_faces : Level → Part → ℕ → Paired ℕ
first_faces level p count =
    paired (take count (part_polygons level.point_count level.polygons p))
    (map (face_edges_of (part_polygons level.point_count level.polygons p)) (take count (part_polygons level.point_count level.polygons p)))
    (length p.places) (4 * length p.places)

-- the tables are those of a part; its edges have these slots, and its points have these names
pub record ArePartTables (level : Level) (p : Part) (slots names : List ℕ) (halves : List Sharpness) (t : PartTables) : Type 0 where
  pub faces : t.faces ≡ first_faces level p (length p.places)
  pub holes : t.holes.items ≡ map (hole_at level) p.places
  pub edges : map sharpness_of t.edge_sharpness.items ≡ map (slot_sharpness halves) slots
  pub points : map sharpness_of t.vertex_sharpness.items ≡ map (child_sharpness level) names
