-- The places of corners among all corners, one face after another.
use Rattle.std.specs.Prelude.{ℕ, ◌≡◌, ◌≢◌, ◌+◌, ◌<◌, List, length, take, get_or}
use Rattle.std.specs.List.{sum_by}
use Rattle.subdiv_model.specs.Polygons.{Polygon, polygon_at}
use Rattle.level_topology.specs.Topology.{corner_of}

-- the number of corners of the faces before a face
abbrev pub start_of : List Polygon → ℕ → ℕ
start_of faces f = sum_by length (take f faces)

-- the place of the corner that a face has at a vertex
abbrev pub corner_at : List Polygon → ℕ → ℕ → ℕ
corner_at faces v f = start_of faces f + corner_of faces v f

-- the corners of faces at other vertices keep their labels
abbrev pub KeepsOthers : List Polygon → ℕ → List ℕ → List ℕ → Type 0
KeepsOthers faces v old new =
    (f c : ℕ) → f < length faces → c < length (polygon_at faces f) → get_or (polygon_at faces f) c 0 ≢ v
    → get_or new (start_of faces f + c) 0 ≡ get_or old (start_of faces f + c) 0
