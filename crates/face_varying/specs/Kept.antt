-- The ends of sides by the numbers of all corners, with a mark where the faces on the two sides of the edge are apart.
use Rattle.std.specs.Prelude.{ℕ, ◌+◌, Bool, true, false, List, [], ◌∷◌, length, map, get_or, slice_set, if◌then◌else◌}
use Rattle.std.specs.List.{flat_map, range_with_len}
use Rattle.subdiv_model.specs.Polygons.{polygon_at}
use Rattle.subdiv_model.specs.Level.{Level}
use Rattle.level_topology.specs.Topology.{face_edges_of, corner_after}
use Rattle.face_varying.specs.CornerPlaces.{start_of}

-- a side of a face with `size` corners; `start` is the place of its first corner among all corners
abbrev pub side_from : List ℕ → ℕ → ℕ → ℕ → ℕ × ℕ
side_from numbers start size c = (get_or numbers (start + c) 0, get_or numbers (start + corner_after size c) 0)

-- the first sides of a face, each with whether the faces at its edge are apart, from the numbers of its edges in the mesh
abbrev pub first_ends : List Bool → List ℕ → ℕ → List ℕ → ℕ → List ((ℕ × ℕ) × Bool)
first_ends apart numbers start edges count = map (λ c. (side_from numbers start (length edges) c, get_or apart (get_or edges c 0) false)) (range_with_len 0 count)

-- the sides of the face with a number, and those of all faces before a number
abbrev pub ends_at : Level → List Bool → List ℕ → ℕ → List ((ℕ × ℕ) × Bool)
ends_at level apart numbers f =
    first_ends apart numbers (start_of level.polygons f) (face_edges_of level.polygons (polygon_at level.polygons f)) (length (face_edges_of level.polygons (polygon_at level.polygons f)))

abbrev pub ends_before : Level → List Bool → List ℕ → ℕ → List ((ℕ × ℕ) × Bool)
ends_before level apart numbers f = flat_map (ends_at level apart numbers) (range_with_len 0 f)

-- the ends of a side get marks, if the faces at it are apart
abbrev pub with_ends_of : (ℕ × ℕ) × Bool → List Bool → List Bool
with_ends_of side marks = if side.1 then slice_set (slice_set marks side.0.0 true) side.0.1 true else marks

abbrev pub with_ends : List ((ℕ × ℕ) × Bool) → List Bool → List Bool
with_ends [] marks = marks
with_ends (side ∷ sides) marks = with_ends sides (with_ends_of side marks)
