-- The number nearest to the fraction of a number is that number.
use Rattle.std.proofs.Common.{◌≡◌, ◌⊎◌, ℕ, zero, suc, ◌+◌, ◌-◌, ◌*◌, ◌^◌, ◌<◌, ◌≤◌, ℤ, pos, negsuc, neg_ℤ, ◌-ℤ◌, ◌*ℤ◌, unsigned_abs, inl, inr, arith, refl, ap, sym, ◌∙◌, pow_pos}
use Rattle.std.proofs.lemmas.Int.{ints, unsigned_abs-mul}
use Rattle.std.proofs.lemmas.Nat.{div-add-mod'}
use Rattle.std.proofs.lemmas.Bool.{cases_order}
use Rattle.std.proofs.Math.Nat.{mul-le-mul_right, mul-lt-mul_of_pos_right, mul-pos, eq_of_mul-eq-mul_right, add-mul}
use Rattle.nearest_float.specs.Binary.{Format, unit_bits, size_of, sign_of, infinity, IsFinite, units, signed_by, value_of}
use Rattle.nearest_float.specs.Nearest.{distance, IsNearest, IsPastFinite}
use Rattle.nearest_float.specs.Exact.{IsExact}
use Rattle.nearest_float.proofs.UnitLemmas.{units-below, units-within, units-none, units-one}
use Rattle.nearest_float.proofs.DistanceLemmas.{sign_bit, neg-times, signed-below, sign_bit-above}
use Rattle.nearest_float.proofs.FormatLemmas.{IsSound}
use Rattle.nearest_float.proofs.LawLemmas.{amount-signed, whole-bits}

none-apart : (x y : ℤ) → x ≡ y → unsigned_abs (x -ℤ y) ≡ 0
none-apart x y same = grind (arith, ints)

not-apart : (x y : ℤ) → unsigned_abs (x -ℤ y) ≡ 0 → x ≡ y
not-apart x y none = grind (arith, ints)

amounts : (num : ℤ) (s u one den : ℕ) → num *ℤ pos one ≡ signed_by s u *ℤ pos den → unsigned_abs num * one ≡ u * den
amounts num s u one den same =
    sym (unsigned_abs-mul num (pos one)) ∙ ap unsigned_abs same ∙ unsigned_abs-mul (signed_by s u) (pos den) ∙ ap (λ n. n * den) (amount-signed s u)

-- a fraction of a value other than 0 has its sign
sign-same : (num : ℤ) (s u one den : ℕ) → s < 2 → 0 < one → 0 < u * den → num *ℤ pos one ≡ signed_by s u *ℤ pos den → s ≡ sign_bit num
sign-same (pos n) zero u one den few some positive same = sym (sign_bit-above n)
sign-same (pos n) (suc s) u one den few some positive same =
    let turned : pos (n * one) ≡ neg_ℤ (pos (u * den)) = same ∙ ap (λ z. z *ℤ pos den) (signed-below s u) ∙ neg-times u den in
    absurd (opposite (n * one) (u * den) positive turned)
  where
    opposite : (a b : ℕ) → 0 < b → pos a ≡ neg_ℤ (pos b) → ⊥
    opposite a b more e = omega (arith, ints, more, e)
sign-same (negsuc n) zero u one den few some positive same = absurd (opposite (suc n * one) (u * den) positive same)
  where
    opposite : (a b : ℕ) → 0 < b → neg_ℤ (pos a) ≡ pos b → ⊥
    opposite a b more e = omega (arith, ints, more, e)
sign-same (negsuc n) (suc s) u one den few some positive same = omega (arith, few)

module _ (f : Format) (bits : ℕ) (num : ℤ) (den back : ℕ) (sound : IsSound f) (short : bits < 2 * 2 ^ (f.exponent_bits + f.fraction_bits))
    (exact : IsExact f bits num den) (near : IsNearest f num den back) where
  abbrev p : ℕ
  p = f.fraction_bits

  abbrev one : ℕ
  one = 2 ^ unit_bits f

  abbrev w : ℕ
  w = 2 ^ (f.exponent_bits + f.fraction_bits)

  amount : unsigned_abs num * one ≡ units p (size_of f bits) * den
  amount = amounts num (sign_of f bits) (units p (size_of f bits)) one den exact.terms.same

  not-past : IsPastFinite f num den → ⊥
  not-past past =
      let within : units p (size_of f bits) * den ≤ units p (infinity f - 1) * den =
      mul-le-mul_right den (units-within p (size_of f bits) (infinity f - 1) (let finite = exact.finite in omega (arith, finite))) in
      let last : units p (infinity f - 1) * den < units p (infinity f) * den =
      mul-lt-mul_of_pos_right (units-below p (infinity f - 1) (infinity f) (let some = sound.positive in omega (arith, some))) exact.terms.positive in
      let split = add-mul (units p (infinity f - 1)) (units p (infinity f)) den in
      omega (arith, within, last, split, amount, past)

  back-finite : IsFinite f back
  back-finite = by-end (cases_order (size_of f back) (infinity f))
    where
      by-end : (size_of f back ≡ infinity f) ⊎ ((size_of f back < infinity f) ⊎ (infinity f < size_of f back)) → IsFinite f back
      by-end (inl same) = absurd (not-past (near.infinite.0 same))
      by-end (inr (inl within)) = within
      by-end (inr (inr past)) = let number = near.number in absurd (omega (arith, number, past))

  back-same : num *ℤ pos one ≡ value_of f back *ℤ pos den
  back-same =
      let nearer = (near.finite back-finite).nearest bits exact.finite in
      let none : distance f num den bits ≡ 0 = none-apart (num *ℤ pos one) (value_of f bits *ℤ pos den) exact.terms.same in
      not-apart (num *ℤ pos one) (value_of f back *ℤ pos den) (omega (arith, nearer, none))

  sizes : size_of f back ≡ size_of f bits
  sizes =
      let back-amount = amounts num (sign_of f back) (units p (size_of f back)) one den back-same in
      units-one p (size_of f back) (size_of f bits)
      (eq_of_mul-eq-mul_right den exact.terms.positive (units p (size_of f back)) (units p (size_of f bits)) (sym back-amount ∙ amount))

  -- The same bits, except that -0 becomes 0.
  pub back-one : (back ≡ bits) ⊎ ((bits ≡ w) × (back ≡ 0))
  back-one = by-size (size_of f bits) refl
    where
      few : sign_of f bits < 2
      few =
          let whole = div-add-mod' bits w in
          let P : ℕ → Type 0 = λ n. n < 2 in by-sign (sign_of f bits) refl
        where
          by-sign : (s : ℕ) → sign_of f bits ≡ s → sign_of f bits < 2
          by-sign zero e = omega (arith, e)
          by-sign (suc zero) e = omega (arith, e)
          by-sign (suc (suc s)) e =
              let whole = div-add-mod' bits w in
              let more : sign_of f bits * w ≡ suc (suc s) * w = ap (λ n. n * w) e in
              let split : suc (suc s) * w ≡ s * w + 2 * w = omega arith in
              absurd (omega (arith, whole, more, split, short))

      by-size : (n : ℕ) → size_of f bits ≡ n → (back ≡ bits) ⊎ ((bits ≡ w) × (back ≡ 0))
      by-size zero none = by-sign (sign_of f bits) refl
        where
          nothing : units p (size_of f bits) * den ≡ 0 * den
          nothing = ap (λ n. n * den) (ap (units p) none ∙ units-none p)

          zero-num : unsigned_abs num ≡ 0
          zero-num = eq_of_mul-eq-mul_right one (pow_pos (unit_bits f)) (unsigned_abs num) 0 (let a = amount in omega (arith, a, nothing))

          above : (z : ℤ) → unsigned_abs z ≡ 0 → sign_bit z ≡ 0
          above (pos n) e = sign_bit-above n
          above (negsuc n) e = absurd (omega (arith, e))

          back-sign : sign_of f back ≡ 0
          back-sign = near.sign ∙ above num zero-num

          back-none : back ≡ 0
          back-none =
              let whole = div-add-mod' back w in
              let no-sign : sign_of f back * w ≡ 0 * w = ap (λ n. n * w) back-sign in
              omega (arith, whole, no-sign, sizes, none)

          by-sign : (s : ℕ) → sign_of f bits ≡ s → (back ≡ bits) ⊎ ((bits ≡ w) × (back ≡ 0))
          by-sign zero e = inl (whole-bits w back bits (back-sign ∙ sym e) sizes)
          by-sign (suc zero) e =
              let whole = div-add-mod' bits w in
              let once : sign_of f bits * w ≡ 1 * w = ap (λ n. n * w) e in
              inr (omega (arith, whole, once, none), back-none)
          by-sign (suc (suc s)) e = absurd (omega (arith, few, e))
      by-size (suc n) some =
          let units-some : units p 0 < units p (size_of f bits) = units-below p 0 (size_of f bits) (omega (arith, some)) in
          let positive : 0 < units p (size_of f bits) * den = mul-pos (omega (arith, units-some)) exact.terms.positive in
          let sign : sign_of f bits ≡ sign_bit num =
          sign-same num (sign_of f bits) (units p (size_of f bits)) one den few (pow_pos (unit_bits f)) positive exact.terms.same in
          inl (whole-bits w back bits (near.sign ∙ sym sign) sizes)
