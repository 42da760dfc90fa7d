-- Sums of each width.
use Rattle.std.proofs.Common.{◌≡◌, ℕ, ◌+◌, ◌-◌, ◌*◌, ◌^◌, ◌<◌, ◌≤◌, Bool, true, false, nat_le, max, cond, ℤ, pos, List, [], ◌∷◌, arith, refl, sym, ◌∙◌, subst, inl, inr, ◌⊎◌}
use Rattle.std.specs.List.{All, AllByRecursion, fold}
use Rattle.std.proofs.lemmas.Bool.{cases_lt}
use Rattle.std.proofs.lemmas.Bool.Decides.{nat_tests}
use Rattle.std.proofs.lemmas.List.Elements.{recursion_from_All}
use Rattle.std.proofs.Math.Nat.{mul-le-mul_left}
use Rattle.subdiv_model.specs.Channel.{number_bound}
use Rattle.number_width.specs.declared.width.Width.{Width}
use Rattle.number_width.specs.declared.width.Width.TheVariants.{Narrow, Wide}
use Rattle.ratio128.specs.Numbers.{CanAdd, CanAddNarrow, greatest_amount}
use Rattle.ratio128.proofs.AmountLemmas.{IsWithin, IsWithin-greatest, CanAdd-within}
use Rattle.primvar_refine.specs.Rows.{Row, least_bound, greatest_of}
use Rattle.primvar_refine.specs.Width.{sum_bound, sum_width, HasSums}

-- each width is within the bound of all numbers
pub sum_bound-short : (width : Width) → sum_bound width ≤ number_bound
sum_bound-short Narrow = omega arith
sum_bound-short Wide = omega arith

-- amounts within s and m, and one product more, in 64 bits
narrow-within : (s w m : ℕ) (xs ys : List ℤ) → IsWithin s xs → IsWithin m ys → s + w * m < 2 ^ 63 → CanAddNarrow w xs ys
narrow-within s w m [] ys hx hy h = tt
narrow-within s w m (x ∷ xs) [] hx hy h = tt
narrow-within s w m (x ∷ xs) (y ∷ ys) hx hy h =
    let more = mul-le-mul_left w hy.0 in (omega (arith, more, hx.0, h), narrow-within s w m xs ys hx.1 hy.1 h)

-- numbers within the bound of a width can be added in it, with a factor that equals w
module _ (width : Width) (w factor : ℕ) (same : factor ≡ w) (xs ys : List ℤ) (fits : greatest_amount xs + w * greatest_amount ys ≤ sum_bound width) where
  pub can-add-narrow : width ≡ Narrow → CanAddNarrow factor xs ys
  can-add-narrow is =
      let small : greatest_amount xs + w * greatest_amount ys ≤ 2 ^ 63 - 1 = subst (λ x. greatest_amount xs + w * greatest_amount ys ≤ sum_bound x) is fits in
      subst (λ n. CanAddNarrow n xs ys) (sym same)
      (narrow-within (greatest_amount xs) w (greatest_amount ys) xs ys (IsWithin-greatest _ xs (omega arith)) (IsWithin-greatest _ ys (omega arith)) (omega (arith, small)))

  pub can-add-wide : CanAdd (pos factor) xs ys
  can-add-wide =
      subst (λ n. CanAdd (pos n) xs ys) (sym same)
      (CanAdd-within (greatest_amount xs) w (greatest_amount ys) xs ys (IsWithin-greatest _ xs (omega arith)) (IsWithin-greatest _ ys (omega arith))
      (omega (arith, fits, sum_bound-short width)))

-- a test that passes at a number, but not above the bound, shows that the number is within the bound
pub within : (bound n : ℕ) (passes : Bool) → passes ≡ true → (bound < n → passes ≡ false) → n ≤ bound
within bound n passes e above = at (cases_lt bound n)
  where
    at : (bound < n) ⊎ (n ≤ bound) → n ≤ bound
    at (inl more) = absurd (let wrong = sym e ∙ above more in cc)
    at (inr below) = below

-- if no number is above a bound, the greatest is not
greatest-below : (n a : ℕ) (xs : List ℕ) → a ≤ n → AllByRecursion (λ x. x ≤ n) xs → fold max a xs ≤ n
greatest-below n a [] h all = h
greatest-below n a (x ∷ xs) h all = greatest-below n (max a x) xs (omega (arith, h, all.0)) all.1

-- the width that is chosen has all numbers
width-sums : (greatest most : ℕ) → greatest ≤ number_bound → greatest * most ≤ number_bound
    → (greatest ≤ sum_bound (sum_width greatest most)) × (greatest * most ≤ sum_bound (sum_width greatest most))
width-sums greatest most short kept = at (nat_le (greatest * max most 1) (2 ^ 63 - 1)) refl
  where
    at : (b : Bool) → nat_le (greatest * max most 1) (2 ^ 63 - 1) ≡ b
        → (greatest ≤ sum_bound (cond b Narrow Wide)) × (greatest * most ≤ sum_bound (cond b Narrow Wide))
    at true e =
        let one : greatest * 1 ≤ greatest * max most 1 = mul-le-mul_left greatest (omega arith) in
        let more : greatest * most ≤ greatest * max most 1 = mul-le-mul_left greatest (omega arith) in
        let below : greatest * max most 1 ≤ 2 ^ 63 - 1 = grind (arith, nat_tests, e) in
        (omega (arith, one, below), omega (arith, more, below))
    at false e = (short, kept)

pub has-sums : (dens all : List ℕ) (rows : List Row) (den most : ℕ) (width : Width) → dens ≡ all → All (λ d. d ≤ number_bound) all → den ≡ greatest_of dens
    → most ≡ least_bound rows → den * most ≤ number_bound → width ≡ sum_width den most → HasSums width dens rows
has-sums dens all rows den most width same short greatest least kept chosen =
    let below : greatest_of dens ≤ number_bound =
    subst (λ ds. greatest_of ds ≤ number_bound) (sym same) (greatest-below number_bound 1 all (omega arith) (recursion_from_All (λ d. d ≤ number_bound) all short)) in
    let sums = width-sums den most (subst (λ n. n ≤ number_bound) (sym greatest) below) kept in
    record {
      short = subst (λ n. n ≤ sum_bound width) greatest (subst (λ x. den ≤ sum_bound x) (sym chosen) sums.0);
      kept = subst (λ n. n * least_bound rows ≤ sum_bound width) greatest (subst (λ n. den * n ≤ sum_bound width) least (subst (λ x. den * most ≤ sum_bound x) (sym chosen) sums.1));
    }

-- no number passes the bound of all
pub sums-kept : (width : Width) (dens : List ℕ) (rows : List Row) → HasSums width dens rows → greatest_of dens * least_bound rows ≤ number_bound
sums-kept width dens rows sums = omega (arith, sums.kept, sum_bound-short width)
