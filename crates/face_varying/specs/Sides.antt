-- The texture numbers at the ends of edges, from the sides of faces.
use Rattle.std.specs.Prelude.{ℕ, ◌≡◌, ◌+◌, ◌<◌, Bool, nat_eq, List, length, get_or, if◌then◌else◌}
use Rattle.subdiv_model.specs.Polygons.{Polygon, polygon_at}
use Rattle.subdiv_model.specs.Edges.{edges_of, edge_number}
use Rattle.level_topology.specs.Topology.{edge_at, side_at}
use Rattle.face_varying.specs.CornerPlaces.{start_of}
use Rattle.face_varying.specs.declared.seams.SideNumbers.{SideNumbers}

-- a side goes along its edge, from the first end to the second
abbrev pub is_along : List Polygon → ℕ × ℕ → Bool
is_along polygons side = nat_eq (edge_at polygons (edge_number polygons side)).0 side.0

-- a pair of numbers of a side, the one at the first end of its edge first
abbrev pub by_end : Bool → ℕ × ℕ → ℕ × ℕ
by_end forward pair = if forward then pair else (pair.1, pair.0)

-- the note for an edge, from the side that goes along it or from the one that goes against it
abbrev pub noted : List (ℕ × ℕ) → List (ℕ × ℕ) → Bool → ℕ → ℕ × ℕ
noted along against forward e = if forward then get_or along e (0, 0) else get_or against e (0, 0)

-- the sides of the first `count` corners are noted
pub record AreNoted (polygons : List Polygon) (texture : List (List ℕ)) (along against : List (ℕ × ℕ)) (count : ℕ) : Type 0 where
  pub along_size : length along ≡ length (edges_of polygons)
  pub against_size : length against ≡ length (edges_of polygons)
  pub each : (f c : ℕ) → f < length polygons → c < length (polygon_at polygons f) → start_of polygons f + c < count
      → let side = side_at (polygon_at polygons f) c in
      noted along against (is_along polygons side) (edge_number polygons side) ≡ by_end (is_along polygons side) (side_at (polygon_at texture f) c)

-- the sides of all corners are noted
abbrev pub AreAllNoted : List Polygon → List (List ℕ) → SideNumbers → Type 0
AreAllNoted polygons texture sides = AreNoted polygons texture sides.along.items sides.against.items (start_of polygons (length polygons))
