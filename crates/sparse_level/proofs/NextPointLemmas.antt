-- The places of child faces, and the points of these, as the definitions have them.
use Rattle.std.proofs.Common.{◌≡◌, ℕ, suc, ◌+◌, ◌-◌, ◌<◌, Bool, true, false, nat_eq, nat_lt, List, [], ◌∷◌, ◌++◌, length, map, take, get_or, arith, refl, ap, subst, sym, ◌∙◌}
use Rattle.std.specs.List.{All, AllPairs, flat_map, sum_by, range_with_len, enumerate_from}
use Rattle.std.proofs.lemmas.Bool.{ltb-true, ltb-false}
use Rattle.std.proofs.lemmas.List.{get_or_append_left, get_or-append_right, length-append}
use Rattle.std.proofs.lemmas.List.Elements.{All-nil, All-append, All-filter}
use Rattle.std.proofs.lemmas.List.FromFn.{get_or-map-range_with_len, length-map-range_with_len}
use Rattle.std.proofs.lemmas.List.Kept.{AllPairs-filter}
use Rattle.std.proofs.lemmas.List.Sums.{sum_by-cons}
use Rattle.subdiv_model.specs.Child.{child_level}
use Rattle.subdiv_model.specs.Level.{Level}
use Rattle.subdiv_model.specs.Lists.{each_once_by}
use Rattle.subdiv_model.specs.Polygons.{Polygon, polygon_at}
use Rattle.subdiv_model.specs.Sparse.{child_number, is_on}
use Rattle.part_laws.proofs.ListLemmas.{joined-mapped}
use Rattle.child_slots.specs.Slots.{quad_at}
use Rattle.child_slots.specs.Parts.{place_number}
use Rattle.child_slots.proofs.QuadLemmas.{child-quad, face-below}
use Rattle.sparse_laws.specs.NextSparse.{corner_places, next_places, next_points, vertex_at}
use Rattle.sparse_level.specs.Places.{points_at, AreWithin}

-- the places of the corners of faces, where the first of these has this number
abbrev places_after : ℕ → List Polygon → List (ℕ × ℕ)
places_after f polygons = flat_map (λ face. map (λ c. (face.0, c)) (range_with_len 0 (length face.1))) (enumerate_from f polygons)

-- a claim about the places of corners holds for each place
places-each : (P : ℕ × ℕ → Type 0) (f : ℕ) (polygons : List Polygon) → ((k c : ℕ) → c < length (polygon_at polygons k) → P (f + k, c)) → All P (places_after f polygons)
places-each P f [] h = All-nil P
places-each P f (p ∷ polygons) h =
    All-append P (map (λ c. (f, c)) (range_with_len 0 (length p))) (places_after (f + 1) polygons) first
    (places-each P (f + 1) polygons (λ k c l. subst P (ap (λ (g : ℕ). (g, c)) (let e : f + suc k ≡ f + 1 + k = omega arith in e)) (h (suc k) c l)))
  where
    pair : ℕ → ℕ × ℕ
    pair = λ c. (f, c)

    first : All P (map (λ c. (f, c)) (range_with_len 0 (length p)))
    first i d l =
        let inside : i < length p = omega (arith, l, length-map-range_with_len pair 0 (length p)) in
        let same : f + 0 ≡ f = omega arith in
        subst P (ap (λ (k : ℕ). (k, i)) same ∙ sym (get_or-map-range_with_len pair 0 (length p) i i d inside (omega arith))) (h 0 i inside)

-- child faces are counted as the corners are
places-rise : (number : ℕ × ℕ → ℕ) (f a : ℕ) (polygons : List Polygon) → ((k c : ℕ) → c < length (polygon_at polygons k) → number (f + k, c) ≡ a + (sum_by length (take k polygons) + c)) → (i : ℕ) (d : ℕ × ℕ) → i < length (places_after f polygons) → number (get_or (places_after f polygons) i d) ≡ a + i
places-rise number f a [] h i d inside = absurd (omega (arith, inside))
places-rise number f a (p ∷ polygons) h i d inside = go (nat_lt i (length p)) refl (places-rise number (f + 1) (a + length p) polygons later (i - length p) d)
  where
    pair : ℕ → ℕ × ℕ
    pair = λ c. (f, c)

    row : List (ℕ × ℕ)
    row = map pair (range_with_len 0 (length p))

    long : length row ≡ length p
    long = length-map-range_with_len pair 0 (length p)

    later : (k c : ℕ) → c < length (polygon_at polygons k) → number (f + 1 + k, c) ≡ a + length p + (sum_by length (take k polygons) + c)
    later k c l =
        let same : f + 1 + k ≡ f + suc k = omega arith in
        ap (λ (g : ℕ). number (g, c)) same ∙ h (suc k) c l ∙ (let e : a + (sum_by length (take (suc k) (p ∷ polygons)) + c) ≡ a + length p + (sum_by length (take k polygons) + c) = omega (arith, sum_by-cons length p (take k polygons)) in e)

    go : (b : Bool) → nat_lt i (length p) ≡ b → (i - length p < length (places_after (f + 1) polygons) → number (get_or (places_after (f + 1) polygons) (i - length p) d) ≡ a + length p + (i - length p)) → number (get_or (row ++ places_after (f + 1) polygons) i d) ≡ a + i
    go true e behind =
        let low = ltb-true i (length p) e in
        let same : f ≡ f + 0 = omega arith in
        ap number (get_or_append_left row (places_after (f + 1) polygons) d i (omega (arith, low, long)) ∙ get_or-map-range_with_len pair 0 (length p) i i d low (omega arith))
        ∙ ap (λ (g : ℕ). number (g, i)) same ∙ h 0 i low ∙ (let k : a + (0 + i) ≡ a + i = omega arith in k)
    go false e behind =
        let high = ltb-false i (length p) e in
        let both : length (row ++ places_after (f + 1) polygons) ≡ length row + length (places_after (f + 1) polygons) = length-append row (places_after (f + 1) polygons) in
        let within : length (row ++ places_after (f + 1) polygons) ≡ length (places_after f (p ∷ polygons)) = refl in
        ap number (get_or-append_right row (places_after (f + 1) polygons) (length p) i d long high) ∙ behind (omega (arith, both, within, inside, long, high)) ∙ (let k : a + length p + (i - length p) ≡ a + i = omega (arith, high) in k)

-- the places of present child faces are corners of the level
pub places-within : (level : Level) (selected : List ℕ) → AreWithin level (next_places level.polygons selected)
places-within level selected i h =
    All-filter (λ place. is_on level.polygons selected (vertex_at level.polygons place)) (λ place. place.1 < length (polygon_at level.polygons place.0)) (corner_places level.polygons)
    (places-each (λ place. place.1 < length (polygon_at level.polygons place.0)) 0 level.polygons (λ k c l. subst (λ (f : ℕ). c < length (polygon_at level.polygons f)) (let e : k ≡ 0 + k = omega arith in e) l)) i (0, 0) h

-- the child faces of present places ascend
pub places-ascend : (polygons : List Polygon) (selected : List ℕ) → AllPairs (λ a b. place_number polygons a < place_number polygons b) (next_places polygons selected)
places-ascend polygons selected = AllPairs-filter (λ a b. place_number polygons a < place_number polygons b) (λ place. is_on polygons selected (vertex_at polygons place)) (corner_places polygons) (λ i j d less inside.
    let at = places-rise (place_number polygons) 0 0 polygons (λ k c l.
    let none : 0 + k ≡ k = omega arith in
    ap (λ (f : ℕ). place_number polygons (f, c)) none ∙ (let e : sum_by length (take k polygons) + c ≡ 0 + (sum_by length (take k polygons) + c) = omega arith in e)) in
    omega (arith, at i d (omega (arith, less, inside)), at j d inside, less))

-- the points of child faces are those of the next level
quads-same : (level : Level) (places : List (ℕ × ℕ)) → All (λ place. place.1 < length (polygon_at level.polygons place.0)) places
    → flat_map (λ place. quad_at level.point_count level.polygons place.0 place.1) places ≡ flat_map (λ place. polygon_at (child_level level).polygons (child_number level.polygons place)) places
quads-same level [] h = refl
quads-same level (place ∷ places) h =
    let within = h 0 (0, 0) (omega arith) in
    let here = child-quad level.point_count level.polygons place.0 place.1 (face-below level.polygons place.0 place.1 within) within in
    ap (λ l. l ++ flat_map (λ x. quad_at level.point_count level.polygons x.0 x.1) places) (sym here)
    ∙ ap (λ l. polygon_at (child_level level).polygons (child_number level.polygons place) ++ l) (quads-same level places (λ k d l. h (suc k) d (omega (arith, l))))

pub points-next : (level : Level) (selected : List ℕ) → points_at level (next_places level.polygons selected) ≡ next_points level selected
points-next level selected =
    let places = next_places level.polygons selected in
    let kids : ℕ → Polygon = polygon_at (child_level level).polygons in
    let within = All-filter (λ place. is_on level.polygons selected (vertex_at level.polygons place)) (λ place. place.1 < length (polygon_at level.polygons place.0)) (corner_places level.polygons)
    (places-each (λ place. place.1 < length (polygon_at level.polygons place.0)) 0 level.polygons (λ k c l. subst (λ (f : ℕ). c < length (polygon_at level.polygons f)) (let e : k ≡ 0 + k = omega arith in e) l)) in
    ap (each_once_by nat_eq)
    (quads-same level places within
    ∙ sym (joined-mapped kids (child_number level.polygons) places)
    ∙ sym (joined-mapped (λ polygon. polygon) kids (map (child_number level.polygons) places)))
