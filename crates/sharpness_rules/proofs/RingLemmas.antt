-- The values of a ring.
use Rattle.std.proofs.Common.{◌≡◌, ℕ, zero, suc, ◌+◌, ◌-◌, ◌*◌, ◌^◌, ◌<◌, ◌≤◌, arith, refl, subst, sym, ap, ◌∙◌, true, false, cond, List, [], ◌∷◌, ◌++◌, length, map, take, drop, get_or, append_assoc, length-append}
use Rattle.std.specs.Int.{◌∣◌}
use Rattle.std.specs.List.{flat_map}
use Rattle.std.proofs.lemmas.Bool.{cond-true, cond-false, lt-ltb}
use Rattle.std.proofs.lemmas.List.{drop_more, get_or-map, length-map, take-map, take_more, flat_map_more}
use Rattle.std.proofs.lemmas.Nat.Gcd.{dvd_trans}
use Rattle.std.proofs.Math.Nat.{mul-le-mul_right}
use Rattle.subdiv_model.specs.Multiples.{common_denominator}
use Rattle.subdiv_model.specs.Lists.{places_from}
use Rattle.subdiv_model.specs.Sharpness as model
use Rattle.subdiv_model.specs.Sharpness.{is_sharp, semi_values}
use Rattle.sharpness_rules.specs.declared.sharpness.Semi.{Semi}
use Rattle.sharpness_rules.specs.declared.sharpness.Sharpness.{Sharpness}
use Rattle.sharpness_rules.specs.declared.sharpness.Sharpness.TheVariants as variant
use Rattle.sharpness_rules.specs.View.{sharpness_of}
use Rattle.sharpness_rules.proofs.MultipleLemmas.{IsProper, AreProper, AreProper-append, common_denominator-prefix, common_denominator-more, common_denominator-push, lcm_of-is, too_fine-several}

-- an edge at a place is sharp or not
pub places-at : (ring : List Sharpness) (place : ℕ) (s : Sharpness) → place < length ring → s ≡ get_or ring place s
    → is_sharp (sharpness_of s) ≡ true
    → places_from place is_sharp (drop place (map sharpness_of ring)) ≡ place ∷ places_from (place + 1) is_sharp (drop (place + 1) (map sharpness_of ring))
places-at ring place s within read sharp =
    let inside : place < length (map sharpness_of ring) = rw length-map within in
    let here : get_or (map sharpness_of ring) place model.Smooth ≡ sharpness_of s = get_or-map sharpness_of ring place s model.Smooth within ∙ ap sharpness_of (sym read) in
    let rest = places_from (place + 1) is_sharp (drop (place + 1) (map sharpness_of ring)) in
    ap (places_from place is_sharp) (drop_more (map sharpness_of ring) place model.Smooth inside)
    ∙ ap (λ x. cond (is_sharp x) (place ∷ rest) rest) here
    ∙ cond-true (is_sharp (sharpness_of s)) (place ∷ rest) rest sharp

pub places-after : (ring : List Sharpness) (place : ℕ) (s : Sharpness) → place < length ring → s ≡ get_or ring place s
    → is_sharp (sharpness_of s) ≡ false
    → places_from place is_sharp (drop place (map sharpness_of ring)) ≡ places_from (place + 1) is_sharp (drop (place + 1) (map sharpness_of ring))
places-after ring place s within read soft =
    let inside : place < length (map sharpness_of ring) = rw length-map within in
    let here : get_or (map sharpness_of ring) place model.Smooth ≡ sharpness_of s = get_or-map sharpness_of ring place s model.Smooth within ∙ ap sharpness_of (sym read) in
    let rest = places_from (place + 1) is_sharp (drop (place + 1) (map sharpness_of ring)) in
    ap (places_from place is_sharp) (drop_more (map sharpness_of ring) place model.Smooth inside)
    ∙ ap (λ x. cond (is_sharp x) (place ∷ rest) rest) here
    ∙ cond-false (is_sharp (sharpness_of s)) (place ∷ rest) rest soft

-- the values before a place, at it and after it
flat_map-split : {X : Type 0} (f : X → List (ℕ × ℕ)) (xs : List X) (i : ℕ) (d : X) → i < length xs
    → flat_map f xs ≡ (flat_map f (take i xs) ++ f (get_or xs i d)) ++ flat_map f (drop (suc i) xs)
flat_map-split f [] i d h = absurd (omega arith)
flat_map-split f (x ∷ xs) zero d h = refl
flat_map-split f (x ∷ xs) (suc i) d h =
    ap (λ r. f x ++ r) (flat_map-split f xs i d (omega arith))
    ∙ sym (append_assoc (f x) (flat_map f (take i xs) ++ f (get_or xs i d)) (flat_map f (drop (suc i) xs)))
    ∙ ap (λ r. r ++ flat_map f (drop (suc i) xs)) (sym (append_assoc (f x) (flat_map f (take i xs)) (f (get_or xs i d))))

-- A prefix that is too fine makes the whole too fine.
pub too_fine-split : {X : Type 0} (f : X → List (ℕ × ℕ)) (prefix : List (ℕ × ℕ)) (xs : List X) (i : ℕ) (d : X) → i < length xs
    → AreProper (prefix ++ flat_map f xs) → 2 ^ 60 < common_denominator ((prefix ++ flat_map f (take i xs)) ++ f (get_or xs i d))
    → 2 ^ 60 < common_denominator (prefix ++ flat_map f xs)
too_fine-split f prefix xs i d h proper passed =
    let here = f (get_or xs i d) in
    let after = flat_map f (drop (suc i) xs) in
    let split : prefix ++ flat_map f xs ≡ ((prefix ++ flat_map f (take i xs)) ++ here) ++ after = ap (λ r. prefix ++ r) (flat_map-split f xs i d h)
    ∙ sym (append_assoc prefix (flat_map f (take i xs) ++ here) after)
    ∙ ap (λ r. r ++ after) (sym (append_assoc prefix (flat_map f (take i xs)) here)) in
    let Q : List (ℕ × ℕ) → Type 0 = λ values. 2 ^ 60 < common_denominator values in
    subst Q (sym split) (common_denominator-more ((prefix ++ flat_map f (take i xs)) ++ here) after (2 ^ 60) (subst AreProper split proper) passed)

-- one item more
pub flat_map-next : {X : Type 0} (f : X → List (ℕ × ℕ)) (prefix : List (ℕ × ℕ)) (xs : List X) (i : ℕ) (d : X) → i < length xs
    → (prefix ++ flat_map f (take i xs)) ++ f (get_or xs i d) ≡ prefix ++ flat_map f (take (i + 1) xs)
flat_map-next f prefix xs i d h =
    flat_map_more f prefix (take i xs) (get_or xs i d) ∙ ap (λ r. prefix ++ flat_map f r) (sym (take_more xs i d h))

pub length-flat_map : {X : Type 0} (f : X → List (ℕ × ℕ)) → ((x : X) → length (f x) ≤ 1) → (xs : List X)
    → length (flat_map f xs) ≤ length xs
length-flat_map f short [] = omega arith
length-flat_map f short (x ∷ xs) = omega (arith, length-append (f x) (flat_map f xs), short x, length-flat_map f short xs)

-- the values of a ring
abbrev pub ring_values : List Sharpness → List (ℕ × ℕ)
ring_values ring = flat_map semi_values (map sharpness_of ring)

semi-proper : (value : Semi) → IsProper (value.num, value.den)
semi-proper value =
    let below : value.num < 10 * value.den = value.below in
    let above : 0 < value.num = value.above in
    record {
      above = value.above;
      positive = omega arith;
      short = value.short;
    }

pub values-proper : (s : Sharpness) → AreProper (semi_values (sharpness_of s))
values-proper variant.Smooth = tt
values-proper (variant.Semi value) = (semi-proper value, tt)
values-proper variant.Infinite = tt

pub ring-proper : (ring : List Sharpness) → AreProper (ring_values ring)
ring-proper [] = tt
ring-proper (s ∷ ring) = AreProper-append (semi_values (sharpness_of s)) (ring_values ring) (values-proper s) (ring-proper ring)

pub length-values : (s : model.Sharpness) → length (semi_values s) ≤ 1
length-values model.Smooth = omega arith
length-values (model.Semi num den) = omega arith
length-values model.Infinite = omega arith

pub length-ring : (ring : List Sharpness) → length (ring_values ring) ≤ length ring
length-ring ring = omega (arith, length-flat_map semi_values length-values (map sharpness_of ring), length-map ring sharpness_of)

-- A part of the ring that is too fine makes the ring too fine.
pub ring-too_fine : (ring : List Sharpness) (i : ℕ) (s : Sharpness) → i < length ring → s ≡ get_or ring i s
    → 2 ^ 60 < common_denominator (ring_values (take i ring) ++ semi_values (sharpness_of s))
    → 2 ^ 60 < common_denominator (ring_values ring)
ring-too_fine ring i s within read passed =
    let inside : i < length (map sharpness_of ring) = rw length-map within in
    let here : sharpness_of s ≡ get_or (map sharpness_of ring) i model.Smooth = ap sharpness_of read ∙ sym (get_or-map sharpness_of ring i s model.Smooth within) in
    let P : List model.Sharpness → Type 0 = λ prefix. 2 ^ 60 < common_denominator (flat_map semi_values prefix ++ semi_values (sharpness_of s)) in
    let Q : model.Sharpness → Type 0 = λ x. 2 ^ 60 < common_denominator (flat_map semi_values (take i (map sharpness_of ring)) ++ semi_values x) in
    too_fine-split semi_values [] (map sharpness_of ring) i model.Smooth inside (ring-proper ring) (subst Q here (subst P (sym (take-map sharpness_of i ring)) passed))

pub edge-at : (ring : List Sharpness) (at : ℕ) (d : Sharpness) (value : Semi) → at < length ring → get_or ring at d ≡ variant.Semi value
    → get_or (map sharpness_of ring) at model.Smooth ≡ model.Semi value.num value.den
edge-at ring at d value within read = get_or-map sharpness_of ring at d model.Smooth within ∙ ap sharpness_of read

-- a semi-sharp edge of the ring is one of its values
edge-split : (ring : List Sharpness) (at : ℕ) (d : Sharpness) (value : Semi) → at < length ring → get_or ring at d ≡ variant.Semi value
    → ring_values ring ≡ (flat_map semi_values (take at (map sharpness_of ring)) ++ (value.num, value.den) ∷ []) ++ flat_map semi_values (drop (suc at) (map sharpness_of ring))
edge-split ring at d value within read =
    let inside : at < length (map sharpness_of ring) = rw length-map within in
    flat_map-split semi_values (map sharpness_of ring) at model.Smooth inside
    ∙ ap (λ x. (flat_map semi_values (take at (map sharpness_of ring)) ++ semi_values x) ++ flat_map semi_values (drop (suc at) (map sharpness_of ring))) (edge-at ring at d value within read)

middle-divides : (prefix after : List (ℕ × ℕ)) (x : ℕ × ℕ) → x.1 ∣ common_denominator ((prefix ++ x ∷ []) ++ after)
middle-divides prefix after x =
    let P : ℕ → Type 0 = λ m. x.1 ∣ m in
    dvd_trans x.1 (subst P (sym (common_denominator-push prefix x)) (lcm_of-is (common_denominator prefix) x.1).second) (common_denominator-prefix (prefix ++ x ∷ []) after)

pub edge-divides : (ring : List Sharpness) (at : ℕ) (d : Sharpness) (value : Semi) → at < length ring
    → get_or ring at d ≡ variant.Semi value → value.den ∣ common_denominator (ring_values ring)
edge-divides ring at d value within read =
    let P : List (ℕ × ℕ) → Type 0 = λ values. value.den ∣ common_denominator values in
    subst P (sym (edge-split ring at d value within read)) (middle-divides _ _ (value.num, value.den))

-- where the ring is too fine, its semi-sharp edges have no halves
pub ring-overflows : (ring : List Sharpness) → 2 ^ 60 < common_denominator (ring_values ring)
    → (2 ≤ length (ring_values ring)) × (model.is_too_fine (4 * (length (ring_values ring) - 1) * common_denominator (ring_values ring)) ≡ true)
ring-overflows ring passed =
    let several : 2 ≤ length (ring_values ring) = too_fine-several (ring_values ring) (ring-proper ring) passed in
    let times : 1 * common_denominator (ring_values ring) ≤ 4 * (length (ring_values ring) - 1) * common_denominator (ring_values ring) = mul-le-mul_right (common_denominator (ring_values ring)) (omega arith) in
    (several, lt-ltb (2 ^ 60) _ (omega arith))
