-- A blend of two means is a mean.
use Rattle.std.proofs.Common.{◌≡◌, ℕ, ◌+◌, ◌-◌, ◌*◌, ◌/◌, ◌<◌, ◌≤◌, true, nat_eq, List, [], ◌∷◌, ◌++◌, arith, ap, sym, ◌∙◌}
use Rattle.std.proofs.lemmas.Bool.{and_parts, eqb-true, ltb-true, cond_both}
use Rattle.std.proofs.Math.Nat.{mul_assoc}
use Rattle.subdiv_model.specs.Multiples.{lcm_of}
use Rattle.subdiv_model.specs.Mask.{Term, Mask, is_mean, total_weight, weigh, scaled_terms, blend, transition_mask}
use Rattle.number_laws.proofs.MultipleLemmas.{first-multiple, second-multiple, product-positive, lcm-positive}
use Rattle.mask_laws.proofs.MaskLemmas.{mean-of, total-cons, total-append}

total-scaled : (a : ℕ) (terms : List Term) → total_weight (scaled_terms a terms) ≡ a * total_weight terms
total-scaled a [] = omega arith
total-scaled a (t ∷ terms) =
    total-cons (weigh (a * t.weight) t.source) (scaled_terms a terms)
    ∙ ap (λ n. a * t.weight + n) (total-scaled a terms)
    ∙ gather a t.weight (total_weight terms)
    ∙ ap (λ n. a * n) (sym (total-cons t terms))
  where
    gather : (x m n : ℕ) → x * m + x * n ≡ x * (m + n)
    gather x m n = omega arith

total-both : (a b : ℕ) (first second : List Term)
    → total_weight (scaled_terms a first ++ scaled_terms b second) ≡ a * total_weight first + b * total_weight second
total-both a b first second =
    total-append (scaled_terms a first) (scaled_terms b second) ∙ ap (λ n. n + total_weight (scaled_terms b second)) (total-scaled a first)
    ∙ ap (λ n. a * total_weight first + n) (total-scaled b second)

mean-parts : (mask : Mask) → is_mean mask ≡ true → (total_weight mask.terms ≡ mask.denominator) × (0 < mask.denominator)
mean-parts mask mean =
    let parts = and_parts _ _ (and_parts _ _ mean).1 in (eqb-true _ _ parts.0, ltb-true _ _ parts.1)

times-multiple : (x m total p whole : ℕ) → total ≡ p → m * p ≡ whole → x * m * total ≡ x * whole
times-multiple x m total p whole e h = ap (λ n. x * m * n) e ∙ mul_assoc x m p ∙ ap (λ n. x * n) h

both-parts : (x k y m : ℕ) → x + k ≡ y → x * m + k * m ≡ y * m
both-parts x k y m e =
    let split : x * m + k * m ≡ (x + k) * m = omega arith in split ∙ ap (λ n. n * m) e

pub mean-blend : (w : ℕ × ℕ) (parent child : Mask) → 0 < w.0 → w.0 ≤ w.1 → is_mean parent ≡ true → is_mean child ≡ true
    → is_mean (blend w parent child) ≡ true
mean-blend w parent child above most one two =
    let p = parent.denominator in
    let r = child.denominator in
    let m = lcm_of p r in
    let first = mean-parts parent one in
    let second = mean-parts child two in
    let terms = scaled_terms (w.0 * (m / p)) parent.terms ++ scaled_terms ((w.1 - w.0) * (m / r)) child.terms in
    let here : w.0 * (m / p) * total_weight parent.terms ≡ w.0 * m =
    times-multiple w.0 (m / p) (total_weight parent.terms) p m first.0 (first-multiple p r first.1) in
    let there : (w.1 - w.0) * (m / r) * total_weight child.terms ≡ (w.1 - w.0) * m =
    times-multiple (w.1 - w.0) (m / r) (total_weight child.terms) r m second.0 (second-multiple p r) in
    mean-of terms (w.1 * m)
    (total-both (w.0 * (m / p)) ((w.1 - w.0) * (m / r)) parent.terms child.terms
    ∙ ap (λ n. n + (w.1 - w.0) * (m / r) * total_weight child.terms) here
    ∙ ap (λ n. w.0 * m + n) there
    ∙ both-parts w.0 (w.1 - w.0) w.1 m (omega arith))
    (product-positive w.1 m (omega arith) (lcm-positive p r first.1 second.1))

pub mean-transition : (w : ℕ × ℕ) (parent child : Mask) → 0 < w.0 → w.0 ≤ w.1 → is_mean parent ≡ true → is_mean child ≡ true
    → is_mean (transition_mask w parent child) ≡ true
mean-transition w parent child above most one two =
    cond_both (nat_eq w.0 w.1) parent (blend w parent child) (λ mask. is_mean mask ≡ true) (λ _. one)
    (λ _. mean-blend w parent child above most one two)
