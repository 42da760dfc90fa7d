-- The places of corners and their faces in the lists of all, and the places that pass a test.
use Rattle.std.proofs.Common.{◌≡◌, ℕ, zero, suc, ◌+◌, ◌*◌, ◌<◌, ◌≤◌, Bool, true, ◌&&◌, nat_eq, nat_lt, List, [], ◌∷◌, length, map, get_or, take, replicate, arith, refl, ap, sym, ◌∙◌}
use Rattle.std.specs.List.{filter, flat_map, list_all, sum_by, range_with_len, enumerate_from}
use Rattle.std.proofs.lemmas.Bool.{and_parts, and_from, eqb-true, lt-ltb}
use Rattle.std.proofs.lemmas.Bool.Decides.{nat_tests}
use Rattle.std.proofs.lemmas.List.{length-append, length-map, length-replicate, get_or-replicate, get_or_append_left, get_or-append-add, get_or_default}
use Rattle.std.proofs.lemmas.List.FromFn.{fill_by_all, length-range_with_len, get_or-range_with_len}
use Rattle.std.proofs.lemmas.List.Folds.{list_all-map}
use Rattle.std.proofs.lemmas.List.Sums.{sum_by-cons, list_all-from_AllPass}
use Rattle.subdiv_model.specs.Lists.{places, places_from}
use Rattle.subdiv_model.specs.Polygons.{Polygon, is_among, polygon_at}
use Rattle.subdiv_model.specs.Sparse.{corners_of, parents_of}
use Rattle.number_laws.proofs.CountLemmas.{all-flat_map}
use Rattle.mesh_laws.proofs.FanLemmas.{places-before}
use Rattle.mesh_laws.proofs.ChildClosedLemmas.{numbered-length}
use Rattle.level_laws.proofs.NumberedLemmas.{numbered-at}
use Rattle.part_laws.proofs.ListLemmas.{places-of-range}
use Rattle.part_laws.proofs.PlaceLemmas.{first_place}
use Rattle.sparse_laws.specs.NextSparse.{corner_places}

-- the places of what passes are the numbers of what passes
pub as-filter : (test : ℕ → Bool) (xs : List ℕ) → places test xs ≡ filter (λ i. test (get_or xs i 0)) (range_with_len 0 (length xs))
as-filter test xs =
    ap (places test) (fill_by_all (λ i. get_or xs i 0) xs (length xs) 0 refl (λ k h. refl))
    ∙ places-of-range (λ i. get_or xs i 0) test 0 (length xs)

-- a place of the list is among the places that pass if its item passes
among-from : {X : Type 0} (test : X → Bool) (d : X) (place k : ℕ) (xs : List X) → k < length xs → is_among (places_from place test xs) (place + k) ≡ test (get_or xs k d)
among-from test d place k [] h = absurd (omega arith)
among-from test d place zero (x ∷ xs) h = let behind = places-before test (place + 1) (place + 0) xs (omega arith) in grind (arith, nat_tests)
among-from test d place (suc k) (x ∷ xs) h =
    let e : place + 1 + k ≡ place + suc k = omega arith in
    let behind = ap (is_among (places_from (place + 1) test xs)) (sym e) ∙ among-from test d (place + 1) k xs (omega arith) in
    grind (arith, nat_tests)

pub among-places : {X : Type 0} (test : X → Bool) (d : X) (k : ℕ) (xs : List X) → k < length xs → is_among (places test xs) k ≡ test (get_or xs k d)
among-places test d k xs h = ap (is_among (places test xs)) (let e : k ≡ 0 + k = omega arith in e) ∙ among-from test d 0 k xs h

pub corners-length : (polygons : List Polygon) → length (corners_of polygons) ≡ sum_by length polygons
corners-length [] = refl
corners-length (polygon ∷ polygons) = omega (arith, length-append polygon (corners_of polygons), corners-length polygons, sum_by-cons length polygon polygons)

-- the corner of a face at a place, among all corners
pub corner-read : (polygons : List Polygon) (g c : ℕ) → g < length polygons → c < length (polygon_at polygons g) → get_or (corners_of polygons) (first_place polygons g + c) 0 ≡ get_or (polygon_at polygons g) c 0
corner-read [] g c h k = absurd (omega arith)
corner-read (polygon ∷ polygons) zero c h k =
    ap (λ i. get_or (corners_of (polygon ∷ polygons)) i 0) (let e : first_place (polygon ∷ polygons) 0 + c ≡ c = omega arith in e)
    ∙ get_or_append_left polygon (corners_of polygons) 0 c k
corner-read (polygon ∷ polygons) (suc g) c h k =
    let e : first_place (polygon ∷ polygons) (suc g) + c ≡ length polygon + (first_place polygons g + c) = omega (arith, sum_by-cons length polygon (take g polygons)) in
    ap (λ i. get_or (corners_of (polygon ∷ polygons)) i 0) e
    ∙ get_or-append-add polygon (corners_of polygons) (first_place polygons g + c) 0
    ∙ corner-read polygons g c (omega arith) k

abbrev parents_from : ℕ → List Polygon → List ℕ
parents_from place polygons = flat_map (λ face. replicate (length face.1) face.0) (enumerate_from place polygons)

parents-long : (place : ℕ) (polygons : List Polygon) → length (parents_from place polygons) ≡ sum_by length polygons
parents-long place [] = refl
parents-long place (polygon ∷ polygons) =
    omega (arith, length-append (replicate (length polygon) place) (parents_from (place + 1) polygons), length-replicate (length polygon) place, parents-long (place + 1) polygons, sum_by-cons length polygon polygons)

pub parents-length : (polygons : List Polygon) → length (parents_of polygons) ≡ sum_by length polygons
parents-length polygons = parents-long 0 polygons

parent-from : (place : ℕ) (polygons : List Polygon) (g c : ℕ) → g < length polygons → c < length (polygon_at polygons g) → get_or (parents_from place polygons) (first_place polygons g + c) 0 ≡ place + g
parent-from place [] g c h k = absurd (omega arith)
parent-from place (polygon ∷ polygons) zero c h k =
    let own = replicate (length polygon) place in
    ap (λ i. get_or (parents_from place (polygon ∷ polygons)) i 0) (let e : first_place (polygon ∷ polygons) 0 + c ≡ c = omega arith in e)
    ∙ get_or_append_left own (parents_from (place + 1) polygons) 0 c (omega (arith, k, length-replicate (length polygon) place))
    ∙ get_or-replicate (length polygon) c place 0 k
    ∙ (let e : place ≡ place + 0 = omega arith in e)
parent-from place (polygon ∷ polygons) (suc g) c h k =
    let own = replicate (length polygon) place in
    let e : first_place (polygon ∷ polygons) (suc g) + c ≡ length own + (first_place polygons g + c) = omega (arith, sum_by-cons length polygon (take g polygons), length-replicate (length polygon) place) in
    ap (λ i. get_or (parents_from place (polygon ∷ polygons)) i 0) e
    ∙ get_or-append-add own (parents_from (place + 1) polygons) (first_place polygons g + c) 0
    ∙ parent-from (place + 1) polygons g c (omega arith) k
    ∙ (let e : place + 1 + g ≡ place + suc g = omega arith in e)

-- the face of a corner, among the faces of all corners
pub parent-read : (polygons : List Polygon) (g c : ℕ) → g < length polygons → c < length (polygon_at polygons g) → get_or (parents_of polygons) (first_place polygons g + c) 0 ≡ g
parent-read polygons g c h k = parent-from 0 polygons g c h k ∙ (let e : 0 + g ≡ g = omega arith in e)

-- among quads the corners of a face begin at four times its number
pub first-of-quads : (quads : List Polygon) (f : ℕ) → list_all (λ quad. nat_eq (length quad) 4) quads ≡ true → f ≤ length quads → first_place quads f ≡ 4 * f
first-of-quads quads zero all h = omega arith
first-of-quads [] (suc f) all h = absurd (omega arith)
first-of-quads (quad ∷ quads) (suc f) all h =
    let parts = and_parts (nat_eq (length quad) 4) (list_all (λ other. nat_eq (length other) 4) quads) all in
    let four = eqb-true (length quad) 4 parts.0 in
    omega (arith, four, sum_by-cons length quad (take f quads), first-of-quads quads f parts.1 (omega arith))

-- other numbers of the points leave the corners in their places
pub first-renamed : (name : ℕ → ℕ) (polygons : List Polygon) (f : ℕ) → first_place (map (map name) polygons) f ≡ first_place polygons f
first-renamed name polygons zero = omega arith
first-renamed name [] (suc f) = refl
first-renamed name (polygon ∷ polygons) (suc f) =
    omega (arith, length-map polygon name, sum_by-cons length polygon (take f polygons), sum_by-cons length (map name polygon) (take f (map (map name) polygons)), first-renamed name polygons f)

-- a corner by the number of its face and its place there
abbrev pub is_place : List Polygon → ℕ × ℕ → Bool
is_place polygons place = nat_lt place.0 (length polygons) && nat_lt place.1 (length (polygon_at polygons place.0))

places-of-face : (polygons : List Polygon) (f : ℕ) → f < length polygons → list_all (is_place polygons) (map (λ c. (f, c)) (range_with_len 0 (length (polygon_at polygons f)))) ≡ true
places-of-face polygons f h =
    let n = length (polygon_at polygons f) in
    list_all-map (is_place polygons) (λ c. (f, c)) (range_with_len 0 n)
    ∙ list_all-from_AllPass (λ c. is_place polygons (f, c)) (range_with_len 0 n) (λ k d inside.
    let less : k < n = omega (arith, inside, length-range_with_len 0 n) in
    and_from _ _ (lt-ltb f (length polygons) h) (lt-ltb _ n (omega (arith, less, get_or-range_with_len 0 n k d less))))

pub all-places : (polygons : List Polygon) → list_all (is_place polygons) (corner_places polygons) ≡ true
all-places polygons =
    let parts : ℕ × Polygon → List (ℕ × ℕ) = λ face. map (λ c. (face.0, c)) (range_with_len 0 (length face.1)) in
    let test : ℕ × Polygon → Bool = λ face. list_all (is_place polygons) (parts face) in
    let faces = enumerate_from 0 polygons in
    all-flat_map (is_place polygons) parts faces
    ∙ list_all-from_AllPass test faces (λ k d h.
    let inside : k < length polygons = omega (arith, h, numbered-length 0 polygons) in
    ap test (get_or_default faces k d (0, []) h ∙ numbered-at polygons k inside) ∙ places-of-face polygons k inside)
