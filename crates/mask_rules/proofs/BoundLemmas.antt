-- The multiple of two denominators, and the amounts of two masks, fit 128 bits.
use Rattle.std.proofs.Common.{◌≡◌, ℕ, ◌+◌, ◌-◌, ◌*◌, ◌/◌, ◌<◌, ◌≤◌, ◌^◌, Bool, false, ◌||◌, nat_eq, List, [], ◌∷◌, length, get_or, arith, refl, ap, sym, ◌∙◌, subst}
use Rattle.std.proofs.lemmas.Bool.{cond_both}
use Rattle.std.proofs.lemmas.Bool.Decides.{nat_tests}
use Rattle.std.proofs.lemmas.Nat.Gcd.{le_of_dvd, dvd_refl}
use Rattle.std.proofs.Math.Nat.{dvd-mul_right, dvd-mul_left, mul_assoc, mul-le-mul_left, mul-le-mul_right, mul-pos}
use Rattle.subdiv_model.specs.Lists.{places}
use Rattle.subdiv_model.specs.Multiples.{lcm_of}
use Rattle.subdiv_model.specs.Sharpness.{Sharpness, Smooth, is_sharp}
use Rattle.subdiv_model.specs.Rule.{Rule, SmoothRule, DartRule, CreaseRule, CornerRule, vertex_rule, rule_of_sharp_edges}
use Rattle.number_laws.proofs.MultipleLemmas.{lcm-least, first-multiple, second-multiple}
use Rattle.level_topology.proofs.PlaceLemmas.{places-item, places-ascend}
use Rattle.mask_rules.specs.Spread.{rule_denominator, IsRuleAmong}

pub denominator-positive : (rule : Rule) (n : ℕ) → IsRuleAmong rule n → 0 < rule_denominator rule n
denominator-positive SmoothRule n h = mul-pos h h
denominator-positive DartRule n h = mul-pos h h
denominator-positive (CreaseRule first second) n h = omega arith
denominator-positive CornerRule n h = omega arith

square-below : (n : ℕ) → n < 2 ^ 32 → n * n < 2 ^ 64
square-below n h = let most : n * n ≤ n * 2 ^ 32 = mul-le-mul_left n (omega arith) in omega arith

-- a denominator is a square or at most 8
lcm-product : (p r : ℕ) → 0 < p → 0 < r → lcm_of p r ≤ p * r
lcm-product p r h k = le_of_dvd (mul-pos h k) (lcm-least p r (p * r) k (dvd-mul_right p r) (dvd-mul_left r p))

lcm-same : (p : ℕ) → 0 < p → lcm_of p p ≤ p
lcm-same p h = le_of_dvd h (lcm-least p p p h (dvd_refl p) (dvd_refl p))

few-left : (p r : ℕ) → 0 < p → 0 < r → p ≤ 8 → r < 2 ^ 64 → lcm_of p r < 2 ^ 68
few-left p r h k few wide = let product = lcm-product p r h k in let most : p * r ≤ 8 * r = mul-le-mul_right r few in omega arith

few-right : (p r : ℕ) → 0 < p → 0 < r → r ≤ 8 → p < 2 ^ 64 → lcm_of p r < 2 ^ 68
few-right p r h k few wide = let product = lcm-product p r h k in let most : p * r ≤ p * 8 = mul-le-mul_left p few in omega arith

module _ (n : ℕ) (short : n < 2 ^ 32) where
  denominator-below : (rule : Rule) → rule_denominator rule n < 2 ^ 64
  denominator-below SmoothRule = square-below n short
  denominator-below DartRule = square-below n short
  denominator-below (CreaseRule first second) = omega arith
  denominator-below CornerRule = omega arith

  both-square : 0 < n → lcm_of (n * n) (n * n) < 2 ^ 68
  both-square h = let same = lcm-same (n * n) (mul-pos h h) in let wide = square-below n short in omega arith

  pub multiple-below : (parent child : Rule) → IsRuleAmong parent n → IsRuleAmong child n → lcm_of (rule_denominator parent n) (rule_denominator child n) < 2 ^ 68
  multiple-below (CreaseRule a b) child h k = few-left 8 (rule_denominator child n) (omega arith) (denominator-positive child n k) (omega arith) (denominator-below child)
  multiple-below CornerRule child h k = few-left 1 (rule_denominator child n) (omega arith) (denominator-positive child n k) (omega arith) (denominator-below child)
  multiple-below SmoothRule (CreaseRule a b) h k = few-right (n * n) 8 (mul-pos h h) (omega arith) (omega arith) (square-below n short)
  multiple-below SmoothRule CornerRule h k = few-right (n * n) 1 (mul-pos h h) (omega arith) (omega arith) (square-below n short)
  multiple-below SmoothRule SmoothRule h k = both-square h
  multiple-below SmoothRule DartRule h k = both-square h
  multiple-below DartRule (CreaseRule a b) h k = few-right (n * n) 8 (mul-pos h h) (omega arith) (omega arith) (square-below n short)
  multiple-below DartRule CornerRule h k = few-right (n * n) 1 (mul-pos h h) (omega arith) (omega arith) (square-below n short)
  multiple-below DartRule SmoothRule h k = both-square h
  multiple-below DartRule DartRule h k = both-square h

pub record Amounts (by rest p r q : ℕ) : Type 0 where
  pub first : by < 2 ^ 128
  pub second : rest < 2 ^ 128
  pub whole : q < 2 ^ 128
  pub fits : by * p + rest * r < 2 ^ 128
  pub small : by + rest < 2 ^ 128

parts-sum : (a b m : ℕ) → a * m + b * m ≡ (a + b) * m
parts-sum a b m = omega arith

-- the amounts of two masks in a blend, and what the blend sums to
pub amounts-fit : (x y p r multiple : ℕ) → x ≤ y → y ≤ 2 ^ 60 → 0 < p → 0 < r → multiple ≡ lcm_of p r → multiple < 2 ^ 68
    → Amounts (x * (multiple / p)) ((y - x) * (multiple / r)) p r (y * multiple)
amounts-fit x y p r multiple part short h k e below =
    let by = x * (multiple / p) in
    let rest = (y - x) * (multiple / r) in
    let first : multiple / p * p ≡ multiple = ap (λ m. m / p * p) e ∙ first-multiple p r h ∙ sym e in
    let second : multiple / r * r ≡ multiple = ap (λ m. m / r * r) e ∙ second-multiple p r ∙ sym e in
    let one : by * p ≡ x * multiple = mul_assoc x (multiple / p) p ∙ ap (λ m. x * m) first in
    let two : rest * r ≡ (y - x) * multiple = mul_assoc (y - x) (multiple / r) r ∙ ap (λ m. (y - x) * m) second in
    let rejoined : x + (y - x) ≡ y = omega arith in
    let sum : x * multiple + (y - x) * multiple ≡ y * multiple = parts-sum x (y - x) multiple ∙ ap (λ m. m * multiple) rejoined in
    let most : y * multiple ≤ 2 ^ 60 * multiple = mul-le-mul_right multiple short in
    let whole : y * multiple < 2 ^ 128 = omega arith in
    let fits : by * p + rest * r < 2 ^ 128 = omega arith in
    let at-least : by * 1 ≤ by * p = mul-le-mul_left by (omega arith) in
    let also : rest * 1 ≤ rest * r = mul-le-mul_left rest (omega arith) in
    record { first = omega arith; second = omega arith; whole = whole; fits = fits; small = omega arith }

-- the rule of a vertex names edges of its ring
module _ (ring : List Sharpness) where
  sharp-among : (ps : List ℕ) → ps ≡ places is_sharp ring → 0 < length ring → IsRuleAmong (rule_of_sharp_edges ps) (length ring)
  sharp-among [] e some = some
  sharp-among (a ∷ []) e some = some
  sharp-among (a ∷ (b ∷ [])) e some =
      let long : 2 ≡ length (places is_sharp ring) = ap length e in
      let order = places-ascend is_sharp Smooth 0 ring 0 (omega arith) in
      let found = places-item is_sharp Smooth 0 ring 1 (omega arith) in
      let first : a ≡ get_or (places is_sharp ring) 0 0 = ap (λ l. get_or l 0 0) e in
      let second : b ≡ get_or (places is_sharp ring) 1 0 = ap (λ l. get_or l 1 0) e in
      (omega (arith, order), omega (arith, found.1, found.2))
  sharp-among (a ∷ (b ∷ (c ∷ more))) e some = tt

  pub rule-among : (vertex : Sharpness) → IsRuleAmong (vertex_rule vertex ring) (length ring)
  rule-among vertex =
      cond_both (is_sharp vertex || nat_eq (length ring) 0) CornerRule (rule_of_sharp_edges (places is_sharp ring))
      (λ rule. IsRuleAmong rule (length ring)) (λ _. tt)
      (λ plain. sharp-among (places is_sharp ring) refl (long (is_sharp vertex) (length ring) plain))
    where
      long : (b : Bool) (n : ℕ) → (b || nat_eq n 0) ≡ false → 0 < n
      long b n h = grind (arith, nat_tests)

pub record Denominators (p r : ℕ) : Type 0 where
  pub first : 0 < p
  pub second : 0 < r
  pub below : lcm_of p r < 2 ^ 68

-- the sums of the masks of two rules
pub denominators : (parent child : Rule) (n valence p r : ℕ) → valence ≡ n → valence < 2 ^ 32 → p ≡ rule_denominator parent valence
    → r ≡ rule_denominator child valence → IsRuleAmong parent n → IsRuleAmong child n → Denominators p r
denominators parent child n valence p r same short e k h l =
    let above : IsRuleAmong parent valence = subst (IsRuleAmong parent) (sym same) h in
    let also : IsRuleAmong child valence = subst (IsRuleAmong child) (sym same) l in
    rw (e, k)
    (record {
      first = denominator-positive parent valence above;
      second = denominator-positive child valence also;
      below = multiple-below valence short parent child above also;
    })
