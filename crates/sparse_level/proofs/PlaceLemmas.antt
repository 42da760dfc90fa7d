-- The corners that have a marked vertex, face by face.
use Rattle.std.proofs.Common.{◌≡◌, ℕ, zero, suc, ◌+◌, ◌<◌, ◌≤◌, ◌^◌, Bool, true, false, List, [], ◌∷◌, ◌++◌, append-nil, append_assoc, length, map, take, get_or, arith, refl, ap, sym, ◌∙◌, if◌then◌else◌, subst}
use Rattle.std.specs.List.{filter, flat_map, count_by, range_with_len, enumerate_from}
use Rattle.std.proofs.lemmas.List.{length-append, length-map, take_all, take_more, length-take-le, map-append, get_or-map}
use Rattle.std.proofs.lemmas.List.FromFn.{get_or-map-range_with_len}
use Rattle.std.proofs.lemmas.List.Elements.{filter-append}
use Rattle.std.proofs.lemmas.List.Sums.{count_by-le-length}
use Rattle.number_laws.proofs.ListLemmas.{places-from-length}
use Rattle.subdiv_model.specs.Lists.{places_from, places}
use Rattle.subdiv_model.specs.Polygons.{Polygon, polygon_at}
use Rattle.subdiv_model.specs.Sparse.{is_on}
use Rattle.subdiv_model.specs.Level.{Level}
use Rattle.level_topology.specs.Topology.{Topology, IsTopology}
use Rattle.level_topology.proofs.FactLemmas.{corners-exist, corners-few}
use Rattle.level_topology.proofs.NumberingLemmas.{places-push}
use Rattle.level_topology.specs.ChildTables.{place_of}
use Rattle.level_topology.specs.declared.child_origin.FacePlace.{FacePlace}
use Rattle.sparse_laws.specs.NextSparse.{next_places, vertex_at}
use Rattle.child_slots.proofs.QuadLemmas.{face-below}
use Rattle.sparse_level.specs.Places.{marks_on, marked_corners, marked_places, AreWithin}

-- the corners of a face that pass a test are the places of the vertices that pass
kept-corners : (keep : ℕ × ℕ → Bool) (test : ℕ → Bool) (f a : ℕ) (xs : List ℕ) → ((i : ℕ) → i < length xs → keep (f, a + i) ≡ test (get_or xs i 0)) → filter keep (map (λ c. (f, c)) (range_with_len a (length xs))) ≡ map (λ c. (f, c)) (places_from a test xs)
kept-corners keep test f a [] h = refl
kept-corners keep test f a (x ∷ xs) h =
    let here : a + 0 ≡ a = omega arith in
    let first : keep (f, a) ≡ test x = ap (λ (k : ℕ). keep (f, k)) (sym here) ∙ h 0 (omega arith) in
    go (test x) refl first (kept-corners keep test f (a + 1) xs (λ i l. ap (λ (k : ℕ). keep (f, k)) (let e : a + 1 + i ≡ a + suc i = omega arith in e) ∙ h (suc i) (omega arith)))
  where
    go : (b : Bool) → test x ≡ b → keep (f, a) ≡ test x → filter keep (map (λ c. (f, c)) (range_with_len (a + 1) (length xs))) ≡ map (λ c. (f, c)) (places_from (a + 1) test xs)
        → filter keep (map (λ c. (f, c)) (range_with_len a (length (x ∷ xs)))) ≡ map (λ c. (f, c)) (places_from a test (x ∷ xs))
    go true e first rest = rw (first, e) (ap (λ (l : List (ℕ × ℕ)). (f, a) ∷ l) rest)
    go false e first rest = rw (first, e) rest

kept-places : (keep : ℕ × ℕ → Bool) (on : List Bool) (f : ℕ) (polygons : List Polygon) → ((k c : ℕ) → c < length (polygon_at polygons k) → keep (f + k, c) ≡ get_or on (get_or (polygon_at polygons k) c 0) false)
    → filter keep (flat_map (λ face. map (λ c. (face.0, c)) (range_with_len 0 (length face.1))) (enumerate_from f polygons)) ≡ marked_places on f polygons
kept-places keep on f [] h = refl
kept-places keep on f (p ∷ polygons) h =
    let here : f + 0 ≡ f = omega arith in
    let first = kept-corners keep (λ v. get_or on v false) f 0 p (λ i l. ap (λ (k : ℕ). keep (k, 0 + i)) (sym here) ∙ ap (λ (c : ℕ). keep (f + 0, c)) (let e : 0 + i ≡ i = omega arith in e) ∙ h 0 i l) in
    let rest = kept-places keep on (f + 1) polygons (λ k c l. ap (λ (g : ℕ). keep (g, c)) (let e : f + 1 + k ≡ f + suc k = omega arith in e) ∙ h (suc k) c l) in
    let behind : List (ℕ × ℕ) = flat_map (λ face. map (λ c. (face.0, c)) (range_with_len 0 (length face.1))) (enumerate_from (f + 1) polygons) in
    filter-append keep (map (λ c. (f, c)) (range_with_len 0 (length p))) behind ∙ ap (λ (l : List (ℕ × ℕ)). l ++ filter keep behind) first ∙ ap (λ (l : List (ℕ × ℕ)). marked_corners on f p ++ l) rest

-- a mark is read at a vertex
pub mark-at : (level : Level) (selected : List ℕ) (on : List Bool) (v : ℕ) → on ≡ marks_on level selected → v < level.point_count → get_or on v false ≡ is_on level.polygons selected v
mark-at level selected on v e h = ap (λ (l : List Bool). get_or l v false) e ∙ get_or-map-range_with_len (is_on level.polygons selected) 0 level.point_count v v false h (omega arith)

-- the corners of which the child faces are present are those with a marked vertex
pub places-marked : (t : Topology) → IsTopology t → (selected : List ℕ) (on : List Bool) → on ≡ marks_on t.level selected → next_places t.level.polygons selected ≡ marked_places on 0 t.level.polygons
places-marked t is selected on e = kept-places (λ place. is_on t.level.polygons selected (vertex_at t.level.polygons place)) on 0 t.level.polygons (λ k c l.
    let same : 0 + k ≡ k = omega arith in
    let below = corners-exist t is k (face-below t.level.polygons k c l) c 0 l in
    ap (λ (g : ℕ). is_on t.level.polygons selected (vertex_at t.level.polygons (g, c))) same ∙ sym (mark-at t.level selected on (get_or (polygon_at t.level.polygons k) c 0) e below))

-- the corners of a face more
pub marked-more : (on : List Bool) (face : ℕ) (polygons : List Polygon) (f : ℕ) → f < length polygons → marked_places on face (take (f + 1) polygons) ≡ marked_places on face (take f polygons) ++ marked_corners on (face + f) (polygon_at polygons f)
marked-more on face [] f h = absurd (omega arith)
marked-more on face (p ∷ polygons) zero h =
    let one : 0 + 1 ≡ suc 0 = omega arith in
    let same : face ≡ face + 0 = omega arith in
    ap (λ k. marked_places on face (take k (p ∷ polygons))) one ∙ append-nil (marked_corners on face p) ∙ ap (λ (k : ℕ). marked_corners on k p) same
marked-more on face (p ∷ polygons) (suc f) h =
    let one : suc f + 1 ≡ suc (f + 1) = omega arith in
    let same : face + 1 + f ≡ face + suc f = omega arith in
    ap (λ k. marked_places on face (take k (p ∷ polygons))) one
    ∙ ap (λ (l : List (ℕ × ℕ)). marked_corners on face p ++ l) (marked-more on (face + 1) polygons f (omega (arith, h)))
    ∙ sym (append_assoc (marked_corners on face p) (marked_places on (face + 1) (take f polygons)) (marked_corners on (face + 1 + f) (polygon_at polygons f)))
    ∙ ap (λ (k : ℕ). (marked_corners on face p ++ marked_places on (face + 1) (take f polygons)) ++ marked_corners on k (polygon_at polygons f)) same

pub marked-all : (on : List Bool) (polygons : List Polygon) (f : ℕ) → length polygons ≤ f → marked_places on 0 (take f polygons) ≡ marked_places on 0 polygons
marked-all on polygons f h = ap (marked_places on 0) (take_all f polygons h)

-- a face has as many marked corners as marked vertices
corners-count : (on : List Bool) (f : ℕ) (polygon : Polygon) → length (marked_corners on f polygon) ≡ count_by (λ v. get_or on v false) polygon
corners-count on f polygon = length-map (places (λ v. get_or on v false) polygon) (λ c. (f, c)) ∙ places-from-length (λ v. get_or on v false) 0 polygon

pub count-more : (on : List Bool) (polygons : List Polygon) (f count more : ℕ) → f < length polygons → count ≡ length (marked_places on 0 (take f polygons)) → more ≡ count_by (λ v. get_or on v false) (polygon_at polygons f) → count + more ≡ length (marked_places on 0 (take (f + 1) polygons))
count-more on polygons f count more h e m =
    let same : 0 + f ≡ f = omega arith in
    let both = ap length (marked-more on 0 polygons f h) ∙ length-append (marked_places on 0 (take f polygons)) (marked_corners on (0 + f) (polygon_at polygons f)) in
    omega (arith, both, e, m, corners-count on (0 + f) (polygon_at polygons f))

-- a face has few such corners
pub more-few : (t : Topology) → IsTopology t → (on : List Bool) (f more : ℕ) → f < length t.level.polygons → more ≡ count_by (λ v. get_or on v false) (polygon_at t.level.polygons f) → more ≤ 2 ^ 16
more-few t is on f more h m = omega (arith, m, count_by-le-length (λ v. get_or on v false) (polygon_at t.level.polygons f), corners-few t is f h)

-- one corner more of a face, which is marked or not
pub corners-more : (on : List Bool) (f : ℕ) (polygon corners : List ℕ) (old now new : List FacePlace) (c corner : ℕ) (mark : Bool) → corners ≡ polygon → c < length corners → corner ≡ c → mark ≡ get_or on (get_or corners c 0) false → map place_of now ≡ map place_of old ++ marked_corners on f (take c polygon)
    → new ≡ now ++ (if mark then record { face = f; corner = corner } ∷ [] else []) → map place_of new ≡ map place_of old ++ marked_corners on f (take (c + 1) polygon)
corners-more on f polygon corners old now new c corner mark same h is e so put =
    let pair : ℕ → ℕ × ℕ = λ i. (f, i) in
    let inside : c < length polygon = omega (arith, h, ap length same) in
    let here : 0 + length (take c polygon) ≡ corner = omega (arith, length-take-le c polygon (omega (arith, inside)), is) in
    let more = ap (λ l. marked_corners on f l) (take_more polygon c 0 inside) ∙ ap (map pair) (places-push 0 (λ v. get_or on v false) (take c polygon) (get_or polygon c 0)) ∙ map-append pair (places (λ v. get_or on v false) (take c polygon)) _ in
    ap (map place_of) put ∙ map-append place_of now _ ∙ ap (λ (l : List (ℕ × ℕ)). l ++ map place_of (if mark then record { face = f; corner = corner } ∷ [] else [])) so
    ∙ append_assoc (map place_of old) (marked_corners on f (take c polygon)) _
    ∙ ap (λ (l : List (ℕ × ℕ)). map place_of old ++ l)
    (ap (λ (l : List (ℕ × ℕ)). marked_corners on f (take c polygon) ++ l)
    (last mark corner ∙ ap (λ b. map pair (if b then corner ∷ [] else [])) (e ∙ ap (λ l. get_or on (get_or l c 0) false) same)
    ∙ ap (λ k. map pair (if get_or on (get_or polygon c 0) false then k ∷ [] else [])) (sym here))
    ∙ sym more)
  where
    last : (b : Bool) (k : ℕ) → map place_of (if b then record { face = f; corner = k } ∷ [] else []) ≡ map (λ i. (f, i)) (if b then k ∷ [] else [])
    last true k = refl
    last false k = refl

-- a place that is read is one of the level
pub within-at : (level : Level) (places : List FacePlace) (i : ℕ) → AreWithin level (map place_of places) → i < length places
    → (get_or places i (record { face = 0; corner = 0 })).corner < length (polygon_at level.polygons (get_or places i (record { face = 0; corner = 0 })).face)
within-at level places i within h =
    let inside : i < length (map place_of places) = omega (arith, h, length-map places place_of) in
    subst (λ (place : ℕ × ℕ). place.1 < length (polygon_at level.polygons place.0)) (get_or-map place_of places i (record { face = 0; corner = 0 }) (0, 0) h) (within i inside)

pub places-more : (on : List Bool) (polygons : List Polygon) (f : ℕ) (now new : List FacePlace) → f < length polygons → map place_of now ≡ marked_places on 0 (take f polygons) → map place_of new ≡ map place_of now ++ marked_corners on f (polygon_at polygons f)
    → map place_of new ≡ marked_places on 0 (take (f + 1) polygons)
places-more on polygons f now new h so put =
    let same : f ≡ 0 + f = omega arith in
    put ∙ ap (λ (l : List (ℕ × ℕ)). l ++ marked_corners on f (polygon_at polygons f)) so
    ∙ ap (λ (k : ℕ). marked_places on 0 (take f polygons) ++ marked_corners on k (polygon_at polygons f)) same ∙ sym (marked-more on 0 polygons f h)
