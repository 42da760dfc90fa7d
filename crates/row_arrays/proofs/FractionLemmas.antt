-- Fractions with which nothing is wrong.
use Rattle.std.proofs.Common.{◌≡◌, ℕ, zero, suc, ◌+◌, ◌*◌, ◌/◌, ◌^◌, ◌<◌, ◌≤◌, ℤ, Bool, true, false, ◌||◌, nat_eq, nat_lt, nat_le, unsigned_abs, List, [], ◌∷◌, length, get_or, map, take, Option, Some, None, option_map, cond, if◌then◌else◌, refl, ap, sym, subst, ◌∙◌, arith}
use Rattle.std.specs.Int.{div_ceil}
use Rattle.std.specs.List.{position, position_or_len, range_with_len}
use Rattle.std.specs.Option.{option_or}
use Rattle.std.proofs.lemmas.Bool.{ltb-false}
use Rattle.std.proofs.lemmas.Bool.Decides.{nat_tests}
use Rattle.std.proofs.lemmas.Grind.{div_ceil_times}
use Rattle.std.proofs.lemmas.List.{get_or-take, length-take}
use Rattle.std.proofs.lemmas.List.FromFn.{map-range_with_len_more}
use Rattle.nearest_float.specs.Binary.{Format}
use Rattle.nearest_float.specs.Nearest.{IsNearest}
use Rattle.nearest_float.specs.NearestArrays.{AreNearest}
use Rattle.nearest_float.proofs.ArrayLemmas.{AreNearest-put}
use Rattle.flat_arrays.specs.Words.{natural_of, integer_of}
use Rattle.row_arrays.specs.Rows.{wide_at}
use Rattle.row_arrays.specs.Fractions.{needed, fraction_at, is_bad_denominator, is_bad_numerator, bad_denominator, bad_numerator, fraction_fault}
use Rattle.row_arrays.specs.declared.fraction_fault.FractionFault.TheVariants.{Short, Denominator, Numerator}
use Rattle.row_arrays.specs.declared.fractions.FractionArrays.{FractionArrays}

-- a list that has no first item which passes has none
none-passes : {X : Type 0} (test : X → Bool) (xs : List X) (i : ℕ) (d : X) → length xs ≤ position_or_len test xs → i < length xs → test (get_or xs i d) ≡ false
none-passes test [] i d h inside = absurd (omega (arith, inside))
none-passes test (x ∷ xs) zero d h inside = by (test x) refl
  where
    by : (passes : Bool) → test x ≡ passes → test x ≡ false
    by true e = absurd (grind (arith, nat_tests, e, h))
    by false e = e
none-passes test (x ∷ xs) (suc i) d h inside = by (test x) refl (λ less. none-passes test xs i d less (omega (arith, inside)))
  where
    by : (passes : Bool) → test x ≡ passes → (length xs ≤ position_or_len test xs → test (get_or xs i d) ≡ false) → test (get_or xs i d) ≡ false
    by true e rest = absurd (grind (arith, nat_tests, e, h))
    by false e rest = rest (grind (arith, nat_tests, e, h))

some-or : (test : Bool) (place : ℕ) → cond test (Some place) None ≡ None → test ≡ false
some-or true place e = cc
some-or false place e = refl

none-at : {X : Type 0} (test : X → Bool) (xs : List X) (i : ℕ) (d : X) → position test xs ≡ None → i < length xs → test (get_or xs i d) ≡ false
none-at test xs i d none inside = none-passes test xs i d (ltb-false (position_or_len test xs) (length xs) (some-or _ _ none)) inside

below : (bound n : ℕ) → nat_le bound n ≡ false → n < bound
below bound n e = grind (arith, nat_tests, e)

above : (n : ℕ) → nat_eq n 0 ≡ false → 0 < n
above n e = grind (arith, nat_tests, e)

within : (bound n : ℕ) → nat_eq n 0 || nat_le bound n ≡ false → (0 < n) × (n < bound)
within bound n e = let parts = or-parts (nat_eq n 0) (nat_le bound n) e in (above n parts.0, below bound n parts.1)
  where
    or-parts : (p q : Bool) → p || q ≡ false → (p ≡ false) × (q ≡ false)
    or-parts false q e = (refl, e)
    or-parts true q e = cc

-- the denominator of a number is one of those that are needed
pub is-needed : (place count per : ℕ) → place < count → 0 < per → place / per < div_ceil count per
is-needed place count per inside some = grind (arith, div_ceil_times, inside, some)

module _ (fractions : FractionArrays) (place : ℕ) (inside : place < length fractions.numerators.now) where
  pub good-numerator : bad_numerator fractions ≡ None → unsigned_abs (integer_of (wide_at fractions.numerators.now place)) < 2 ^ 127
  good-numerator none =
      below (2 ^ 127) (unsigned_abs (integer_of (wide_at fractions.numerators.now place)))
      (none-at is_bad_numerator fractions.numerators.now place (record { low = 0; high = 0 }) none inside)

  pub good-denominator : 0 < fractions.per → needed fractions ≤ length fractions.denominators.now → bad_denominator fractions ≡ None →
      (0 < natural_of (wide_at fractions.denominators.now (place / fractions.per)) * natural_of fractions.scale)
      × (natural_of (wide_at fractions.denominators.now (place / fractions.per)) * natural_of fractions.scale < 2 ^ 127)
  good-denominator some enough none =
      let there = is-needed place (length fractions.numerators.now) fractions.per inside some in
      let at = place / fractions.per in
      let words = fractions.denominators.now in
      let short : at < length (take (needed fractions) words) = omega (arith, there, enough, length-take (needed fractions) words) in
      within (2 ^ 127) (natural_of (wide_at words at) * natural_of fractions.scale)
      (ap (is_bad_denominator (natural_of fractions.scale)) (sym (get_or-take (needed fractions) words at (record { low = 0; high = 0 }) there))
      ∙ none-at (is_bad_denominator (natural_of fractions.scale)) (take (needed fractions) words) at (record { low = 0; high = 0 }) none short)

pub abs-below : (a b : ℤ) → a ≡ b → unsigned_abs b < 2 ^ 127 → unsigned_abs a < 2 ^ 127
abs-below a b e h = let P : ℤ → Type 0 = λ z. unsigned_abs z < 2 ^ 127 in subst P (sym e) h

-- the nearest number to one fraction more
pub nearest-more : (f : Format) (fractions : FractionArrays) (place : ℕ) (old new : List ℕ) (num : ℤ) (den : ℕ) → place < length new → take place new ≡ take place old →
    num ≡ (fraction_at fractions place).0 → den ≡ (fraction_at fractions place).1 → IsNearest f num den (get_or new place 0) →
    AreNearest f (map (fraction_at fractions) (range_with_len 0 place)) (take place old) →
    AreNearest f (map (fraction_at fractions) (range_with_len 0 (place + 1))) (take (place + 1) new)
nearest-more f fractions place old new num den inside kept num-is den-is nearest so-far =
    let one = subst (λ z. IsNearest f z (fraction_at fractions place).1 (get_or new place 0)) num-is
    (subst (λ n. IsNearest f num n (get_or new place 0)) den-is nearest) in
    subst (λ all. AreNearest f all (take (place + 1) new)) (sym (map-range_with_len_more (fraction_at fractions) 0 place place (omega arith)))
    (AreNearest-put f (map (fraction_at fractions) (range_with_len 0 place)) old new place (fraction_at fractions place).0
    (fraction_at fractions place).1 inside kept one so-far)

-- The facts of fractions without a fault.
pub record AreGood (fractions : FractionArrays) (places : ℕ) : Type 0 where
  pub shared : 0 < fractions.per
  pub fits : length fractions.numerators.now ≤ places
  pub enough : needed fractions ≤ length fractions.denominators.now
  pub denominators : bad_denominator fractions ≡ None
  pub numerators : bad_numerator fractions ≡ None

either-none : (a b : Option ℕ) → option_or (option_map Denominator a) (option_map Numerator b) ≡ None → (a ≡ None) × (b ≡ None)
either-none None None e = (refl, refl)
either-none None (Some b) e = cc
either-none (Some a) b e = cc

pub good-parts : (fractions : FractionArrays) (places : ℕ) → fraction_fault fractions places ≡ None → AreGood fractions places
good-parts fractions places none =
    by (nat_eq fractions.per 0) (nat_lt places (length fractions.numerators.now)) (nat_lt (length fractions.denominators.now) (needed fractions)) refl refl refl none
  where
    by : (unshared short few : Bool) → nat_eq fractions.per 0 ≡ unshared → nat_lt places (length fractions.numerators.now) ≡ short →
        nat_lt (length fractions.denominators.now) (needed fractions) ≡ few →
        (if (unshared || (short || few)) then (Some Short) else (option_or (option_map Denominator (bad_denominator fractions)) (option_map Numerator (bad_numerator fractions)))) ≡ None →
        AreGood fractions places
    by true short few d e f wrong = cc
    by false true few d e f wrong = cc
    by false false true d e f wrong = cc
    by false false false d e f wrong =
        let parts = either-none (bad_denominator fractions) (bad_numerator fractions) wrong in record {
          shared = above fractions.per d;
          fits = ltb-false places (length fractions.numerators.now) e;
          enough = ltb-false (length fractions.denominators.now) (needed fractions) f;
          denominators = parts.0;
          numerators = parts.1;
        }
