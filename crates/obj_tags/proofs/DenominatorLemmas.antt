-- A common denominator after one more denominator, after those of a line, and after those of a text.
use Rattle.std.proofs.Common.{◌≡◌, ℕ, suc, ◌+◌, ◌-◌, ◌%◌, ◌^◌, ◌<◌, ◌≤◌, nat_eq, nat_le, Bool, true, false, cond, lit<, List, ◌∷◌, take, Option, Some, None, add-one, arith, refl, ap, sym, ◌∙◌, ◌⊎◌, inl, inr}
use Rattle.std.specs.Prelude.{is_some}
use Rattle.std.specs.List.{fold, count_by}
use Rattle.std.proofs.lemmas.List.Sums.{sum_by-cons}
use Rattle.std.proofs.lemmas.Bool.Decides.{nat_tests}
use Rattle.std.proofs.lemmas.Bool.{eqb-true}
use Rattle.std.proofs.lemmas.Nat.Gcd.{dvd_antisymm, dvd_of_mod-eq-zero}
use Rattle.std.proofs.Math.Nat.{one-le-pow}
use Rattle.subdiv_model.specs.Multiples.{lcm_of}
use Rattle.ratio128.specs.Ratio.{IsLcm}
use Rattle.obj_laws.proofs.RangeLemmas.{grows}
use Rattle.number_laws.proofs.CountLemmas.{one_if}
use Rattle.number_laws.proofs.MultipleLemmas.{lcm-first, lcm-second, lcm-least, lcm-absorbs, lcm-positive}
use Rattle.obj_tags.specs.Line.{Line}
use Rattle.obj_tags.specs.Survey.{with_denominator, with_line, surveyed}
use Rattle.obj_tags.specs.declared.survey.Common.{Common}
use Rattle.obj_tags.proofs.WalkLemmas.{take-first}

is-lcm : (a b : ℕ) → 0 < b → IsLcm a b (lcm_of a b)
is-lcm a b positive = record { first = lcm-first a b; second = lcm-second a b; least = λ n p q. lcm-least a b n positive p q }

same-lcm : (a b m : ℕ) → 0 < b → IsLcm a b m → m ≡ lcm_of a b
same-lcm a b m positive is = dvd_antisymm (is.least (lcm_of a b) (lcm-first a b) (lcm-second a b)) (lcm-least a b m positive is.first is.second)

le-yes : (a b : ℕ) → a ≤ b → nat_le a b ≡ true
le-yes a b h = grind (arith, nat_tests)

le-no : (a b : ℕ) → b < a → nat_le a b ≡ false
le-no a b h = grind (arith, nat_tests)

divided-same : (number value den : ℕ) (wide : Option ℕ) → 0 < den → value ≤ 10 ^ 37 → nat_eq (value % den) 0 ≡ true
    → record { value = value; wide = wide } ≡ with_denominator number (record { value = value; wide = wide }) den
divided-same number value den (Some place) positive short e = refl
divided-same number value den None positive short e =
    let same : lcm_of value den ≡ value = lcm-absorbs value den positive (dvd_of_mod-eq-zero den (eqb-true (value % den) 0 e)) in
    rw (same, le-yes value (10 ^ 37) short) refl

pub stays-same : (number : ℕ) (common : Common) (den : ℕ) → 0 < den → common.value ≤ 10 ^ 37
    → (is_some common.wide ≡ true) ⊎ (nat_eq (common.value % den) 0 ≡ true) → common ≡ with_denominator number common den
stays-same number common den positive short (inl e) = rw e refl
stays-same number common den positive short (inr e) = divided-same number common.value den common.wide positive short e

pub multiple-positive : (a b m : ℕ) → 0 < a → 0 < b → IsLcm a b m → 0 < m
multiple-positive a b m h k is = let same = same-lcm a b m k is in let more = lcm-positive a b h k in omega (arith, same, more)

-- else their least common multiple is found, or that it passes the bound
pub with-multiple : (number : ℕ) (common : Common) (den m : ℕ) → 0 < den → is_some common.wide ≡ false → IsLcm common.value den m
    → m ≤ 10 ^ 37 → record { value = m; wide = None } ≡ with_denominator number common den
with-multiple number common den m positive narrow is short = by common.value common.wide narrow is
  where
    by : (value : ℕ) (wide : Option ℕ) → is_some wide ≡ false → IsLcm value den m
        → record { value = m; wide = None } ≡ with_denominator number (record { value = value; wide = wide }) den
    by value (Some place) e is = cc
    by value None e is = rw (sym (same-lcm value den m positive is), le-yes m (10 ^ 37) short) refl

pub with-wide : (number : ℕ) (common : Common) (den : ℕ) → 0 < den → is_some common.wide ≡ false
    → ((m : ℕ) → IsLcm common.value den m → 10 ^ 37 < m)
    → record { value = common.value; wide = Some number } ≡ with_denominator number common den
with-wide number common den positive narrow far =
    let more = far (lcm_of common.value den) (is-lcm common.value den positive) in
    rw (narrow, le-no (lcm_of common.value den) (10 ^ 37) more) refl

-- one more word of some
pub fold-taken : {X : Type 0} (f : X → List ℕ → X) (x : X) (n : ℕ) (word : List ℕ) (left next : Line) → 0 < n → left ≡ word ∷ next
    → fold f (f x word) (take (n - 1) next) ≡ fold f x (take n left)
fold-taken f x n word left next h e = sym (ap (λ ws. fold f x (take n ws)) e ∙ ap (fold f x) (take-first n word next h))

-- one more line of a text
pub survey-step : (kind : Line → Bool) (n : ℕ) (common next : Common) (line : Line) (others lines : List Line) → lines ≡ line ∷ others
    → next ≡ with_line kind (n + 1) common line → surveyed kind (suc (n + 1)) next others ≡ surveyed kind (suc n) common lines
survey-step kind n common next line others lines e step =
    ap (λ c. surveyed kind (suc (n + 1)) c others) step
    ∙ ap (λ k. surveyed kind (suc k) (with_line kind k common line) others) (add-one n)
    ∙ ap (surveyed kind (suc n) common) (sym e)

-- a power of ten to start with
pub tens-bounded : (n : ℕ) → n ≤ 18 → (0 < 10 ^ n) × (10 ^ n ≤ 10 ^ 37)
tens-bounded n h = (one-le-pow n 10 (lit< tt), grows n 37 (omega arith))

-- one more line in the counts of a kind
pub count-step : (kind : Line → Bool) (before next : ℕ) (line : Line) (others lines : List Line) (all : ℕ) → lines ≡ line ∷ others
    → next ≡ before + cond (kind line) 1 0 → before + count_by kind lines ≡ all
    → (next + count_by kind others ≡ all) × (next ≤ before + 1)
count-step kind before next line others lines all e step sum =
    let here : count_by kind (line ∷ others) ≡ one_if (kind line) + count_by kind others = sum_by-cons (λ y. cond (kind y) 1 0) line others in
    let same = ap (count_by kind) e in
    let most = one-most (kind line) in
    (omega (arith, here, same, step, sum), omega (arith, step, most))
  where
    one-most : (b : Bool) → cond b 1 0 ≤ 1
    one-most true = omega arith
    one-most false = omega arith
