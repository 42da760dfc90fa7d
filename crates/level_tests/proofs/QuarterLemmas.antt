-- The tables of the square and of one quarter are those of levels, and the quarter is a child of the square.
use Rattle.std.proofs.Common.{◌≡◌, ℕ, zero, suc, ◌+◌, ◌<◌, ◌≤◌, ◌^◌, List, [], ◌∷◌, length, get_or, map, arith, refl, ap, sym, ◌∙◌, inr}
use Rattle.std.specs.List.{All, IsDistinct}
use Rattle.std.specs.Bool.{Decides}
use Rattle.std.specs.List.Sorted.{IsPermutation}
use Rattle.std.proofs.lemmas.List.Sorted.{IsPermutation-refl}
use Rattle.std.proofs.lemmas.Map.Made.{AllPairs-from_IsDistinct}
use Rattle.subdiv_model.specs.Polygons.{Polygon}
use Rattle.subdiv_model.specs.Edges.{edges_of}
use Rattle.level_topology.specs.Topology.{IsListedAt, IsFan, edge_before, edge_after, corner_of, end_of}
use Rattle.level_topology.specs.Rows.{topology_of, AreOfLevel}
use Rattle.level_topology.specs.Child.{PointOrigin, same_origin, same_place, IsOriginWithin, IsPlaceWithin, IsChild, corner_origins, origins_along}
use Rattle.level_topology.proofs.ChildLemmas.{same_origin-refl, same_origin-true, same_place-refl, same_place-true}
use Rattle.level_tests.specs.Squares.{square_rows, quarter_rows, quarter_origins, quarter_places, square, quarter}

-- a claim about 0 holds for all numbers below 1, and one about the first four numbers for all below 4
by-one : (P : ℕ → Type 0) → P 0 → (k : ℕ) → k < 1 → P k
by-one P a zero h = a
by-one P a (suc k) h = absurd (omega arith)

pub by-four : (P : ℕ → Type 0) → P 0 → P 1 → P 2 → P 3 → (k : ℕ) → k < 4 → P k
by-four P a b c d zero h = a
by-four P a b c d (suc zero) h = b
by-four P a b c d (suc (suc zero)) h = c
by-four P a b c d (suc (suc (suc zero))) h = d
by-four P a b c d (suc (suc (suc (suc k)))) h = absurd (omega arith)

-- one face at a point, the edge before it and the edge after it
fan-of-one : (polygons : List Polygon) (v f before after : ℕ) → edge_before polygons v f ≡ before → edge_after polygons v f ≡ after → IsFan polygons v (f ∷ []) (before ∷ after ∷ [])
fan-of-one polygons v f before after e g = record {
  path = tt;
  before = first;
  after = second;
  closes = λ same some. absurd (omega (arith, same));
  count = inr refl;
}
  where
    first : (i : ℕ) → i < 1 → get_or (before ∷ after ∷ []) i 0 ≡ edge_before polygons v (get_or (f ∷ []) i 0)
    first zero h = sym e
    first (suc i) h = absurd (omega arith)

    second : (i : ℕ) → i + 1 < 2 → i < 1 → get_or (before ∷ after ∷ []) (i + 1) 0 ≡ edge_after polygons v (get_or (f ∷ []) i 0)
    second zero h k = sym g
    second (suc i) h k = absurd (omega arith)

-- two items in the other order
turned : (a b : ℕ) → IsPermutation (a ∷ b ∷ []) (b ∷ a ∷ [])
turned a b = record { moves = (0, 1) ∷ []; below = (omega arith, omega arith, tt); is = refl }

-- faces of four corners
quads-short : (polygons : List Polygon) → ((k : ℕ) → k < length polygons → length (get_or polygons k []) ≡ 4) → All (λ polygon. length polygon ≤ 2 ^ 16) polygons
quads-short [] each k d h = absurd (omega arith)
quads-short (polygon ∷ polygons) each zero d h = omega (arith, each 0 (omega arith))
quads-short (polygon ∷ polygons) each (suc k) d h = quads-short polygons (λ j inside. each (suc j) (omega arith)) k d (omega arith)

square-quads : (k : ℕ) → k < 1 → length (get_or square_rows.face_vertices k []) ≡ 4
square-quads = by-one (λ k. length (get_or square_rows.face_vertices k []) ≡ 4) refl

square-listed : (v : ℕ) → v < 4 → IsListedAt (topology_of square_rows) v
square-listed zero h = record {
  faces = IsPermutation-refl _;
  edges = turned 0 3;
  fan = λ complete. fan-of-one square_rows.face_vertices 0 0 3 0 refl refl;
  ascending_faces = λ not. absurd (cc);
  ascending_edges = λ not. absurd (cc);
}
square-listed (suc zero) h = record {
  faces = IsPermutation-refl _;
  edges = IsPermutation-refl _;
  fan = λ complete. fan-of-one square_rows.face_vertices 1 0 0 1 refl refl;
  ascending_faces = λ not. absurd (cc);
  ascending_edges = λ not. absurd (cc);
}
square-listed (suc (suc zero)) h = record {
  faces = IsPermutation-refl _;
  edges = IsPermutation-refl _;
  fan = λ complete. fan-of-one square_rows.face_vertices 2 0 1 2 refl refl;
  ascending_faces = λ not. absurd (cc);
  ascending_edges = λ not. absurd (cc);
}
square-listed (suc (suc (suc zero))) h = record {
  faces = IsPermutation-refl _;
  edges = IsPermutation-refl _;
  fan = λ complete. fan-of-one square_rows.face_vertices 3 0 2 3 refl refl;
  ascending_faces = λ not. absurd (cc);
  ascending_edges = λ not. absurd (cc);
}
square-listed (suc (suc (suc (suc v)))) h = absurd (omega arith)

quarter-quads : (k : ℕ) → k < 1 → length (get_or quarter_rows.face_vertices k []) ≡ 4
quarter-quads = by-one (λ k. length (get_or quarter_rows.face_vertices k []) ≡ 4) refl

quarter-listed : (v : ℕ) → v < 4 → IsListedAt (topology_of quarter_rows) v
quarter-listed zero h = record {
  faces = IsPermutation-refl _;
  edges = IsPermutation-refl _;
  fan = λ complete. absurd (cc);
  ascending_faces = λ not. refl;
  ascending_edges = λ not. refl;
}
quarter-listed (suc zero) h = record {
  faces = IsPermutation-refl _;
  edges = IsPermutation-refl _;
  fan = λ complete. absurd (cc);
  ascending_faces = λ not. refl;
  ascending_edges = λ not. refl;
}
quarter-listed (suc (suc zero)) h = record {
  faces = IsPermutation-refl _;
  edges = IsPermutation-refl _;
  fan = λ complete. absurd (cc);
  ascending_faces = λ not. refl;
  ascending_edges = λ not. refl;
}
quarter-listed (suc (suc (suc zero))) h = record {
  faces = IsPermutation-refl _;
  edges = IsPermutation-refl _;
  fan = λ complete. absurd (cc);
  ascending_faces = λ not. refl;
  ascending_edges = λ not. refl;
}
quarter-listed (suc (suc (suc (suc v)))) h = absurd (omega arith)

pub square-of-level : AreOfLevel square_rows
square-of-level = record {
  topology = record {
    formed = refl;
    simple = refl;
    sides_once = refl;
    small = record { points = omega arith; faces = omega arith; corners = omega arith; sizes = quads-short square_rows.face_vertices square-quads };
    face_lists = refl;
    edge_lists = refl;
    marks = refl;
    listed = square-listed;
  };
  face_edges = refl;
  edge_vertices = refl;
  edge_faces = refl;
  faces_listed = refl;
  edges_listed = refl;
  corners = by-four (λ v. get_or square_rows.vertex_faces_at v [] ≡ map (corner_of square_rows.face_vertices v) (get_or square_rows.vertex_faces v [])) refl refl refl refl;
  ends = by-four (λ v. get_or square_rows.vertex_edges_at v [] ≡ map (end_of square_rows.face_vertices v) (get_or square_rows.vertex_edges v [])) refl refl refl refl;
}

pub quarter-of-level : AreOfLevel quarter_rows
quarter-of-level = record {
  topology = record {
    formed = refl;
    simple = refl;
    sides_once = refl;
    small = record { points = omega arith; faces = omega arith; corners = omega arith; sizes = quads-short quarter_rows.face_vertices quarter-quads };
    face_lists = refl;
    edge_lists = refl;
    marks = refl;
    listed = quarter-listed;
  };
  face_edges = refl;
  edge_vertices = refl;
  edge_faces = refl;
  faces_listed = refl;
  edges_listed = refl;
  corners = by-four (λ v. get_or quarter_rows.vertex_faces_at v [] ≡ map (corner_of quarter_rows.face_vertices v) (get_or quarter_rows.vertex_faces v [])) refl refl refl refl;
  ends = by-four (λ v. get_or quarter_rows.vertex_edges_at v [] ≡ map (end_of quarter_rows.face_vertices v) (get_or quarter_rows.vertex_edges v [])) refl refl refl refl;
}

-- the levels are those of the tables
pub square-is : square ≡ topology_of square_rows
unfolding square
square-is = refl

pub quarter-is : quarter ≡ topology_of quarter_rows
unfolding quarter
quarter-is = refl

-- the number of their parts
pub square-points : square.level.point_count ≡ 4
unfolding square
square-points = refl

pub square-sizes : map length square.level.polygons ≡ 4 ∷ []
unfolding square
square-sizes = refl

pub square-edges : length (edges_of square.level.polygons) ≡ 4
unfolding square
square-edges = refl

pub quarter-points : quarter.level.point_count ≡ 4
unfolding quarter
quarter-points = refl

-- the tests of origins and places decide equality
origin-decides : (a b : PointOrigin) → Decides (same_origin a b) (a ≡ b)
origin-decides a b = ((same_origin-true a b), (λ e. ap (same_origin a) (sym e) ∙ same_origin-refl a))

place-decides : (a b : ℕ × ℕ) → Decides (same_place a b) (a ≡ b)
place-decides a b = ((same_place-true a b), (λ e. ap (same_place a) (sym e) ∙ same_place-refl a))

quarter-origins-within : All (IsOriginWithin 4 1 4) quarter_origins
quarter-origins-within zero d h = omega arith
quarter-origins-within (suc zero) d h = omega arith
quarter-origins-within (suc (suc zero)) d h = omega arith
quarter-origins-within (suc (suc (suc zero))) d h = omega arith
quarter-origins-within (suc (suc (suc (suc k)))) d h = absurd (omega arith)

quarter-places-within : All (IsPlaceWithin square_rows.face_vertices) quarter_places
quarter-places-within zero d h = omega arith
quarter-places-within (suc k) d h = absurd (omega arith)

quarter-corners : (f : ℕ) → f < 1 → origins_along quarter_origins (get_or quarter_rows.face_vertices f []) ≡ corner_origins square_rows.face_vertices (get_or quarter_places f (0, 0))
quarter-corners = by-one (λ f. origins_along quarter_origins (get_or quarter_rows.face_vertices f []) ≡ corner_origins square_rows.face_vertices (get_or quarter_places f (0, 0))) refl

quarter-distinct : IsDistinct same_origin quarter_origins
unfolding IsDistinct
quarter-distinct = ((refl, (refl, (refl, tt))), ((refl, (refl, tt)), ((refl, tt), (tt, tt))))

quarter-apart : IsDistinct same_place quarter_places
unfolding IsDistinct
quarter-apart = (tt, tt)

pub quarter-child : IsChild square quarter quarter_origins quarter_places
quarter-child = rw (square-is, quarter-is) record {
  each_point = refl;
  each_face = refl;
  origins_within = quarter-origins-within;
  places_within = quarter-places-within;
  origins_once = AllPairs-from_IsDistinct origin-decides quarter_origins quarter-distinct;
  places_once = AllPairs-from_IsDistinct place-decides quarter_places quarter-apart;
  corners = quarter-corners;
}
