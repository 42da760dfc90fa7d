-- Walks about a vertex over its faces in fan order.
use Rattle.std.specs.Prelude.{ℕ, zero, suc, ◌≡◌, ◌+◌, ◌<◌, Bool, false, List, [], length, get_or, if◌then◌else◌}
use Rattle.level_topology.specs.Topology.{Topology}
use Rattle.face_varying.specs.CornerPlaces.{corner_at}

-- the last place below a bound that passes, or else the given place
abbrev pub last_before : (ℕ → Bool) → ℕ → ℕ → ℕ
last_before test given zero = given
last_before test given (suc n) = if test n then n else last_before test given n

-- the face with this place at a vertex is apart from the one before it
abbrev pub is_cut : Topology → List Bool → ℕ → ℕ → Bool
is_cut t apart v i = get_or apart (get_or (get_or t.edges_at v []) i 0) false

-- the number of faces at a vertex
abbrev pub face_count : Topology → ℕ → ℕ
face_count t v = length (get_or t.faces_at v [])

-- the place, among all corners, of the corner of the face with this place at a vertex
abbrev pub corner_in : Topology → ℕ → ℕ → ℕ
corner_in t v i = corner_at t.level.polygons v (get_or (get_or t.faces_at v []) i 0)

-- the place at which the last run of faces that are not apart begins; about a cycle it goes on past the first face
abbrev pub last_run : Topology → List Bool → ℕ → ℕ
last_run t apart v = last_before (is_cut t apart v) 0 (face_count t v)

-- the place at which the run of a face begins
abbrev pub run_of : Topology → List Bool → ℕ → ℕ → ℕ
run_of t apart v i = last_before (is_cut t apart v) (last_run t apart v) (i + 1)

-- each of the first faces at a vertex has as its label the corner at which its run begins
pub record HasRuns (t : Topology) (apart : List Bool) (v count : ℕ) (labels : List ℕ) : Type 0 where
  pub each : (i : ℕ) → i < count → get_or labels (corner_in t v i) 0 ≡ corner_in t v (run_of t apart v i)
