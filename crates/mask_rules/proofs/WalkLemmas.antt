-- The terms that a walk over edges or faces has put so far, and their bounds.
use Rattle.std.proofs.Common.{◌≡◌, ℕ, zero, suc, ◌+◌, ◌*◌, ◌<◌, ◌≤◌, ◌^◌, nat_lt, List, [], ◌∷◌, ◌++◌, length, take, get_or, arith, ap, sym, ◌∙◌, append_assoc}
use Rattle.std.proofs.lemmas.List.Elements.{filter-append}
use Rattle.std.proofs.Math.Nat.{mul-le-mul_left}
use Rattle.subdiv_model.specs.Rule.{Rule, SmoothRule, DartRule, CreaseRule, CornerRule}
use Rattle.subdiv_model.specs.Mask.{OfPoint, Term, weigh}
use Rattle.mask_rules.specs.Spread.{vertex_weight, rule_denominator, end_terms, positive}

ends-more : (f : ℕ → ℕ) (place i : ℕ) (ends : List ℕ) → i < length ends
    → end_terms f place (take (suc i) ends) ≡ end_terms f place (take i ends) ++ weigh (f (place + i)) (OfPoint (get_or ends i 0)) ∷ []
ends-more f place i [] h = absurd (omega arith)
ends-more f place zero (v ∷ ends) h =
    let here : place ≡ place + 0 = omega arith in ap (λ n. weigh (f n) (OfPoint v) ∷ []) here
ends-more f place (suc i) (v ∷ ends) h =
    let next : place + 1 + i ≡ place + suc i = omega arith in
    ap (λ l. weigh (f place) (OfPoint v) ∷ l) (ends-more f (place + 1) i ends (omega arith)
    ∙ ap (λ n. end_terms f (place + 1) (take i ends) ++ weigh (f n) (OfPoint (get_or ends i 0)) ∷ []) next)

-- one term more, where it weighs something
more : (before now after so_far all : List Term) (t : Term) → now ≡ before ++ positive so_far → after ≡ now ++ positive (t ∷ [])
    → all ≡ so_far ++ t ∷ [] → after ≡ before ++ positive all
more before now after so_far all t e k h =
    k ∙ ap (λ l. l ++ positive (t ∷ [])) e ∙ append_assoc before (positive so_far) (positive (t ∷ []))
    ∙ ap (λ l. before ++ l) (sym (filter-append (λ u. nat_lt 0 u.weight) so_far (t ∷ []))) ∙ ap (λ l. before ++ positive l) (sym h)

pub ends-step : (f : ℕ → ℕ) (ends : List ℕ) (i weight end : ℕ) (before now after : List Term) → i < length ends
    → now ≡ before ++ positive (end_terms f 0 (take i ends)) → after ≡ now ++ positive (weigh weight (OfPoint end) ∷ [])
    → weight ≡ f i → end ≡ get_or ends i 0 → after ≡ before ++ positive (end_terms f 0 (take (i + 1) ends))
ends-step f ends i weight end before now after inside e k w at =
    let zeroth : i ≡ 0 + i = omega arith in
    let next : i + 1 ≡ suc i = omega arith in
    let same : weigh weight (OfPoint end) ≡ weigh (f (0 + i)) (OfPoint (get_or ends i 0)) = ap (λ n. weigh n (OfPoint end)) (w ∙ ap f zeroth) ∙ ap (λ n. weigh (f (0 + i)) (OfPoint n)) at in
    more before now after (end_terms f 0 (take i ends)) (end_terms f 0 (take (i + 1) ends)) (weigh (f (0 + i)) (OfPoint (get_or ends i 0))) e
    (k ∙ ap (λ t. now ++ positive (t ∷ [])) same) (ap (λ k. end_terms f 0 (take k ends)) next ∙ ends-more f 0 i ends inside)

vertex-below : (rule : Rule) (n : ℕ) → vertex_weight rule n ≤ rule_denominator rule n
vertex-below SmoothRule n = mul-le-mul_left n (omega arith)
vertex-below DartRule n = mul-le-mul_left n (omega arith)
vertex-below (CreaseRule first second) n = omega arith
vertex-below CornerRule n = omega arith

pub record Fit (a b : ℕ) : Type 0 where
  pub first : a < 2 ^ 128
  pub second : b < 2 ^ 128
  pub both : a + b < 2 ^ 128

-- the weights of a vertex by two rules fit where the denominators do
pub vertex-fits : (parent child : Rule) (by rest n x y : ℕ) → by * rule_denominator parent n + rest * rule_denominator child n < 2 ^ 128
    → x ≡ vertex_weight parent n → y ≡ vertex_weight child n → Fit (by * x) (rest * y)
vertex-fits parent child by rest n x y small e k =
    let first = mul-le-mul_left by (vertex-below parent n) in
    let second = mul-le-mul_left rest (vertex-below child n) in
    let one = ap (λ w. by * w) e in
    let two = ap (λ w. rest * w) k in
    record { first = omega arith; second = omega arith; both = omega arith }
