-- The nearest number of a format, by the nearest size in one without a greatest exponent.
use Rattle.std.proofs.Common.{◌≡◌, ◌≢◌, ◌⊎◌, ℕ, ◌+◌, ◌*◌, ◌/◌, ◌%◌, ◌^◌, ◌<◌, ◌≤◌, Bool, true, false, ℤ, pos, unsigned_abs, int_lt, min, if◌then◌else◌, inl, inr, arith, ap, ap₂, sym, ◌∙◌, subst}
use Rattle.std.proofs.lemmas.Nat.{div-mul-add, mod-mul-add}
use Rattle.std.proofs.lemmas.Bool.{cases_lt}
use Rattle.nearest_float.specs.Binary.{Format, binary64, binary32, unit_bits, size_of, sign_of, infinity, IsFinite, significand, units, signed_by, value_of}
use Rattle.nearest_float.specs.Nearest.{distance, IsNearestFinite, IsNearest, IsPastFinite}
use Rattle.nearest_float.specs.Scaled.{IsNearestSize, far}
use Rattle.nearest_float.proofs.UnitLemmas.{units-none, significand-even}
use Rattle.nearest_float.proofs.DistanceLemmas.{sign_bit, gap, gap-own, gap-other}
use Rattle.nearest_float.proofs.LastLemmas.{past-end, before-end}

-- A format with at least one bit of fraction, whose infinity is an even size with NaN sizes above it.
pub record IsSound (f : Format) : Type 0 where
  pub some : 0 < f.fraction_bits
  pub positive : 0 < infinity f
  pub even : infinity f % 2 ≡ 0
  pub within : infinity f < 2 ^ (f.exponent_bits + f.fraction_bits)

-- the bits with the sign of a number
pub record HasBits (f : Format) (num : ℤ) (size bits : ℕ) : Type 0 where
  pub sign : sign_of f bits ≡ sign_bit num
  pub without : size_of f bits ≡ size

pub bits-from : (f : Format) (num : ℤ) (size bits : ℕ) → size < 2 ^ (f.exponent_bits + f.fraction_bits) →
    sign_bit num * 2 ^ (f.exponent_bits + f.fraction_bits) + size ≡ bits → HasBits f num size bits
bits-from f num size bits within is =
    let w = 2 ^ (f.exponent_bits + f.fraction_bits) in record {
      sign = ap (λ n. n / w) (sym is) ∙ div-mul-add (sign_bit num) w size within;
      without = ap (λ n. n % w) (sym is) ∙ mod-mul-add (sign_bit num) w size within;
    }

pub own-value : (f : Format) (num : ℤ) (size bits : ℕ) → HasBits f num size bits → value_of f bits ≡ signed_by (sign_bit num) (units f.fraction_bits size)
own-value f num size bits has = ap₂ (λ s n. signed_by s (units f.fraction_bits n)) has.sign has.without

pub own-distance : (f : Format) (num : ℤ) (den size bits : ℕ) → HasBits f num size bits →
    distance f num den bits ≡ far f.fraction_bits (unsigned_abs num * 2 ^ unit_bits f) den size
own-distance f num den size bits has =
    ap (λ z. gap num z (2 ^ unit_bits f) den) (own-value f num size bits has) ∙ gap-own num (units f.fraction_bits size) (2 ^ unit_bits f) den

module _ (f : Format) (num : ℤ) (den size bits : ℕ) (some : 0 < f.fraction_bits) (positive : 0 < den)
    (near : IsNearestSize f.fraction_bits (unsigned_abs num * 2 ^ unit_bits f) den size) (has : HasBits f num size bits) where
  abbrev x : ℕ
  x = unsigned_abs num * 2 ^ unit_bits f

  value : value_of f bits ≡ signed_by (sign_bit num) (units f.fraction_bits size)
  value = own-value f num size bits has

  own : distance f num den bits ≡ far f.fraction_bits x den size
  own = own-distance f num den size bits has

  -- no size is nearer than 0
  none : far f.fraction_bits x den size ≤ x
  none =
      let zero-units : units f.fraction_bits 0 * den ≡ 0 * den = ap (λ n. n * den) (units-none f.fraction_bits) in
      let nearest : far f.fraction_bits x den size ≤ far f.fraction_bits x den 0 = near.nearest 0 in
      omega (arith, zero-units, nearest)

  even-size : (0 ≡ size) ⊎ (size % 2 ≡ 0) → size % 2 ≡ 0
  even-size (inl same) = omega (arith, same)
  even-size (inr even) = even

  -- a number with the sign of the fraction, or one beyond 0
  abbrev Cases : ℕ → Type 0
  Cases other =
      ((value_of f other ≡ signed_by (sign_bit num) (units f.fraction_bits (size_of f other)))
      × (distance f num den other ≡ far f.fraction_bits x den (size_of f other)))
      ⊎ (distance f num den other ≡ x + units f.fraction_bits (size_of f other) * den)

  pub nearest-finite : IsNearestFinite f num den bits
  nearest-finite = record {
    nearest = λ other finite. nearer other (gap-other num (sign_of f other) (units f.fraction_bits (size_of f other)) (2 ^ unit_bits f) den);
    even = λ other finite differs same. ap (λ n. significand f.fraction_bits n % 2) has.without
        ∙ significand-even f.fraction_bits size some (as-near other differs same (gap-other num (sign_of f other) (units f.fraction_bits (size_of f other)) (2 ^ unit_bits f) den));
  }
    where
      nearer : (other : ℕ) → Cases other → distance f num den bits ≤ distance f num den other
      nearer other (inl (same, is)) = let nearest = near.nearest (size_of f other) in rw own (rw is nearest)
      nearer other (inr is) = rw own (rw is (omega (arith, none)))

      as-near : (other : ℕ) → value_of f other ≢ value_of f bits → distance f num den other ≡ distance f num den bits → Cases other → size % 2 ≡ 0
      as-near other differs same (inl (signed, is)) = by-size (near.even (size_of f other) (sym is ∙ same ∙ own))
        where
          by-size : (size_of f other ≡ size) ⊎ (size % 2 ≡ 0) → size % 2 ≡ 0
          by-size (inl e) = absurd (differs (signed ∙ ap (λ n. signed_by (sign_bit num) (units f.fraction_bits n)) e ∙ sym value))
          by-size (inr even) = even
      as-near other differs same (inr is) =
          let both : x + units f.fraction_bits (size_of f other) * den ≡ far f.fraction_bits x den size = sym is ∙ same ∙ own in
          let zero-units : units f.fraction_bits 0 * den ≡ 0 * den = ap (λ n. n * den) (units-none f.fraction_bits) in
          even-size (near.even 0 (omega (arith, both, zero-units, none)))

-- the nearest size, but no greater than infinity
pub nearest-number : (f : Format) (num : ℤ) (den size bits : ℕ) → IsSound f → 0 < den →
    IsNearestSize f.fraction_bits (unsigned_abs num * 2 ^ unit_bits f) den size →
    sign_bit num * 2 ^ (f.exponent_bits + f.fraction_bits) + min size (infinity f) ≡ bits → IsNearest f num den bits
nearest-number f num den size bits sound positive near is = record {
  sign = has.sign;
  number = omega (arith, has.without);
  infinite = (
    λ same. past-end f.fraction_bits x den (infinity f) size sound.positive positive near (omega (arith, has.without, same)),
    λ beyond. at-end (cases_lt size (infinity f)) beyond,
  );
  finite = λ finite. within (cases_lt size (infinity f)) finite;
}
  where
    x : ℕ
    x = unsigned_abs num * 2 ^ unit_bits f

    has : HasBits f num (min size (infinity f)) bits
    has = bits-from f num (min size (infinity f)) bits (let fits = sound.within in omega (arith, fits)) is

    at-end : (size < infinity f) ⊎ (infinity f ≤ size) → IsPastFinite f num den → size_of f bits ≡ infinity f
    at-end (inl less) beyond = absurd (before-end f.fraction_bits _ den (infinity f) size sound.positive positive near sound.even less beyond)
    at-end (inr more) beyond = omega (arith, has.without, more)

    within : (size < infinity f) ⊎ (infinity f ≤ size) → IsFinite f bits → IsNearestFinite f num den bits
    within (inl less) finite =
        let least : min size (infinity f) ≡ size = omega arith in
        nearest-finite f num den size bits sound.some positive near (subst (λ n. HasBits f num n bits) least has)
    within (inr more) finite = absurd (omega (arith, has.without, finite, more))

-- a finite size, with the bit of the sign
pub nearest-signed : (f : Format) (num z : ℤ) (den amount size bits : ℕ) → IsSound f → 0 < den → z ≡ num → amount ≡ unsigned_abs z →
    IsNearestSize f.fraction_bits (amount * 2 ^ unit_bits f) den size → size < infinity f →
    bits ≡ (if (int_lt z (pos 0)) then (2 ^ (f.exponent_bits + f.fraction_bits)) else 0) + size → IsNearest f num den bits
nearest-signed f num z den amount size bits sound positive same is near fits whole =
    let least : size ≡ min size (infinity f) = omega (arith, fits) in
    nearest-number f num den size bits sound positive
    (subst (λ n. IsNearestSize f.fraction_bits (n * 2 ^ unit_bits f) den size) (is ∙ ap unsigned_abs same) near)
    (sym (whole ∙ ap₂ (λ s n. s + n) (by-sign (int_lt z (pos 0)) ∙ ap (λ y. sign_bit y * w) same) least))
  where
    w : ℕ
    w = 2 ^ (f.exponent_bits + f.fraction_bits)

    by-sign : (b : Bool) → (if b then w else 0) ≡ (if b then 1 else 0) * w
    by-sign true = omega arith
    by-sign false = omega arith

pub signed-finite : (f : Format) (num : ℤ) (size bits : ℕ) → IsSound f → size < infinity f →
    bits ≡ (if (int_lt num (pos 0)) then (2 ^ (f.exponent_bits + f.fraction_bits)) else 0) + size → IsFinite f bits
signed-finite f num size bits sound fits whole = by-sign (int_lt num (pos 0)) whole
  where
    w : ℕ
    w = 2 ^ (f.exponent_bits + f.fraction_bits)

    within : size < w
    within = let more = sound.within in omega (arith, more, fits)

    by-sign : (b : Bool) → bits ≡ (if b then w else 0) + size → size_of f bits < infinity f
    by-sign true e =
        let once : bits ≡ 1 * w + size = omega (arith, e) in
        omega (arith, ap (λ n. n % w) once ∙ mod-mul-add 1 w size within, fits)
    by-sign false e =
        let none : bits ≡ 0 * w + size = omega (arith, e) in
        omega (arith, ap (λ n. n % w) none ∙ mod-mul-add 0 w size within, fits)

pub sound64 : IsSound binary64
sound64 = record { some = omega arith; positive = omega arith; even = omega arith; within = omega arith }

pub sound32 : IsSound binary32
sound32 = record { some = omega arith; positive = omega arith; even = omega arith; within = omega arith }
