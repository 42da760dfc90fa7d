-- The place of each child face among those of all corners.
use Rattle.std.proofs.Common.{◌≡◌, ℕ, zero, suc, ◌+◌, ◌-◌, ◌<◌, ◌≤◌, Bool, true, false, nat_lt, List, [], ◌∷◌, ◌++◌, append-nil, append_assoc, length, map, take, get_or, arith, refl, ap, sym, ◌∙◌}
use Rattle.std.specs.List.{range_with_len, sum_by}
use Rattle.std.proofs.lemmas.Bool.{ltb-true, ltb-false}
use Rattle.std.proofs.lemmas.List.{get_or_append_left, get_or-append-add, length-append}
use Rattle.std.proofs.lemmas.List.FromFn.{get_or-map-range_with_len, length-map-range_with_len}
use Rattle.std.proofs.lemmas.List.Sums.{sum_by-cons}
use Rattle.subdiv_model.specs.Polygons.{Polygon, polygon_at}
use Rattle.child_slots.specs.Slots.{first_child}
use Rattle.uniform_refiner.specs.Uniform.{all_places}

-- each child face is that of a corner
pub record IsPlace (polygons : List Polygon) (k : ℕ) : Type 0 where
  pub face : ℕ
  pub corner : ℕ
  pub exists : corner < length (polygon_at polygons face)
  pub number : k ≡ first_child polygons face + corner

pub place-of : (polygons : List Polygon) (k : ℕ) → k < sum_by length polygons → IsPlace polygons k
place-of [] k h = absurd (omega arith)
place-of (p ∷ polygons) k h = go (nat_lt k (length p)) refl (place-of polygons (k - length p))
  where
    go : (b : Bool) → nat_lt k (length p) ≡ b → (k - length p < sum_by length polygons → IsPlace polygons (k - length p)) → IsPlace (p ∷ polygons) k
    go true low later = record { face = 0; corner = k; exists = ltb-true _ _ low; number = omega arith }
    go false high later =
        let past : length p ≤ k = ltb-false _ _ high in
        let behind = later (omega (arith, h, past, sum_by-cons length p polygons)) in
        record { face = suc behind.face; corner = behind.corner; exists = behind.exists; number = omega (arith, behind.number, past, sum_by-cons length p (take behind.face polygons)) }

-- the place of a child face
pub places-at : (face : ℕ) (polygons : List Polygon) (f c : ℕ) (d : ℕ × ℕ) → c < length (polygon_at polygons f) → get_or (all_places face polygons) (first_child polygons f + c) d ≡ (face + f, c)
places-at face [] f c d h = absurd (omega arith)
places-at face (p ∷ polygons) zero c d h =
    let pair : ℕ → ℕ × ℕ = λ i. (face, i) in
    let count : length (map pair (range_with_len 0 (length p))) ≡ length p = length-map-range_with_len pair 0 (length p) in
    let none : 0 + c ≡ c = omega arith in
    let same : face ≡ face + 0 = omega arith in
    ap (λ k. get_or (all_places face (p ∷ polygons)) k d) none
    ∙ get_or_append_left (map pair (range_with_len 0 (length p))) (all_places (face + 1) polygons) d c (omega (arith, h, count))
    ∙ get_or-map-range_with_len pair 0 (length p) c c d h (omega arith)
    ∙ ap (λ (k : ℕ). (k, c)) same
places-at face (p ∷ polygons) (suc f) c d h =
    let pair : ℕ → ℕ × ℕ = λ i. (face, i) in
    let xs : List (ℕ × ℕ) = map pair (range_with_len 0 (length p)) in
    let count : length xs ≡ length p = length-map-range_with_len pair 0 (length p) in
    let place : first_child (p ∷ polygons) (suc f) + c ≡ length xs + (first_child polygons f + c) = omega (arith, count, sum_by-cons length p (take f polygons)) in
    let same : face + 1 + f ≡ face + suc f = omega arith in
    ap (λ k. get_or (all_places face (p ∷ polygons)) k d) place
    ∙ get_or-append-add xs (all_places (face + 1) polygons) (first_child polygons f + c) d
    ∙ places-at (face + 1) polygons f c d h
    ∙ ap (λ (k : ℕ). (k, c)) same

pub places-count : (face : ℕ) (polygons : List Polygon) → length (all_places face polygons) ≡ sum_by length polygons
places-count face [] = refl
places-count face (p ∷ polygons) =
    let pair : ℕ → ℕ × ℕ = λ i. (face, i) in
    let both : length (all_places face (p ∷ polygons)) ≡ length (map pair (range_with_len 0 (length p))) + length (all_places (face + 1) polygons) = length-append (map pair (range_with_len 0 (length p))) (all_places (face + 1) polygons) in
    let count : length (map pair (range_with_len 0 (length p))) ≡ length p = length-map-range_with_len pair 0 (length p) in
    omega (arith, both, count, places-count (face + 1) polygons, sum_by-cons length p polygons)

-- the places of one face more
pub places-more : (face : ℕ) (polygons : List Polygon) (f : ℕ) → f < length polygons → all_places face (take (f + 1) polygons) ≡ all_places face (take f polygons) ++ map (λ c. (face + f, c)) (range_with_len 0 (length (polygon_at polygons f)))
places-more face [] f h = absurd (omega arith)
places-more face (p ∷ polygons) zero h =
    let one : 0 + 1 ≡ suc 0 = omega arith in
    let same : face ≡ face + 0 = omega arith in
    let last : ℕ → List (ℕ × ℕ) = λ k. map (λ c. (k, c)) (range_with_len 0 (length p)) in
    ap (λ k. all_places face (take k (p ∷ polygons))) one ∙ append-nil (last face) ∙ ap last same
places-more face (p ∷ polygons) (suc f) h =
    let one : suc f + 1 ≡ suc (f + 1) = omega arith in
    let same : face + 1 + f ≡ face + suc f = omega arith in
    let xs : List (ℕ × ℕ) = map (λ i. (face, i)) (range_with_len 0 (length p)) in
    let last : ℕ → List (ℕ × ℕ) = λ k. map (λ c. (k, c)) (range_with_len 0 (length (polygon_at polygons f))) in
    ap (λ k. all_places face (take k (p ∷ polygons))) one
    ∙ ap (λ ys. xs ++ ys) (places-more (face + 1) polygons f (omega (arith, h)))
    ∙ sym (append_assoc xs (all_places (face + 1) (take f polygons)) (last (face + 1 + f)))
    ∙ ap (λ k. (xs ++ all_places (face + 1) (take f polygons)) ++ last k) same

-- a child face by its number: the face and the corner that it comes from
pub place-item : (polygons : List Polygon) (k : ℕ) (d : ℕ × ℕ) → k < sum_by length polygons → (f : ℕ) × (c : ℕ) × (c < length (polygon_at polygons f)) × (k ≡ first_child polygons f + c) × (get_or (all_places 0 polygons) k d ≡ (f, c))
place-item polygons k d h =
    let place = place-of polygons k h in
    let f = place.face in
    let c = place.corner in
    let zero_more : 0 + f ≡ f = omega arith in
    (f, c, place.exists, place.number, ap (λ i. get_or (all_places 0 polygons) i d) place.number ∙ places-at 0 polygons f c d place.exists ∙ ap (λ (i : ℕ). (i, c)) zero_more)
