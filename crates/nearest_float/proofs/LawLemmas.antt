-- One number is nearest, and it is the one that a fraction was read from.
use Rattle.std.proofs.Common.{◌≡◌, ◌≢◌, ◌⊎◌, ℕ, zero, suc, ◌+◌, ◌-◌, ◌*◌, ◌/◌, ◌%◌, ◌^◌, ◌<◌, ◌≤◌, ℤ, unsigned_abs, inl, inr, arith, refl, ap, ap₂, sym, ◌∙◌}
use Rattle.std.proofs.lemmas.Nat.{div-add-mod'}
use Rattle.std.proofs.lemmas.Bool.{cases_order}
use Rattle.std.proofs.Math.Nat.{mul-lt-mul_of_pos_right}
use Rattle.nearest_float.specs.Binary.{Format, unit_bits, size_of, sign_of, infinity, IsFinite, units, signed_by, value_of}
use Rattle.nearest_float.specs.Nearest.{distance, IsNearest}
use Rattle.nearest_float.specs.Scaled.{far}
use Rattle.nearest_float.proofs.UnitLemmas.{units-below, units-one, size-even}
use Rattle.nearest_float.proofs.DistanceLemmas.{sign_bit, signed-below}
use Rattle.nearest_float.proofs.FormatLemmas.{IsSound, HasBits, bits-from, own-distance}
use Rattle.nearest_float.proofs.SignLemmas.{amount-below}

pub amount-signed : (s u : ℕ) → unsigned_abs (signed_by s u) ≡ u
amount-signed zero u = refl
amount-signed (suc s) u = ap unsigned_abs (signed-below s u) ∙ amount-below u

same-units : (s t u v : ℕ) → signed_by s u ≡ signed_by t v → u ≡ v
same-units s t u v same = sym (amount-signed s u) ∙ ap unsigned_abs same ∙ amount-signed t v

-- the size and the sign are the bits
pub whole-bits : (w a b : ℕ) → a / w ≡ b / w → a % w ≡ b % w → a ≡ b
whole-bits w a b signs sizes = sym (div-add-mod' a w) ∙ ap₂ (λ m n. m * w + n) signs sizes ∙ div-add-mod' b w

-- the lesser of two sizes is not as near as the greater where both are even
module _ (f : Format) (num : ℤ) (den a b : ℕ) (sound : IsSound f) (positive : 0 < den) (one : IsNearest f num den a) (two : IsNearest f num den b)
    (a-finite : IsFinite f a) (b-finite : IsFinite f b) (less : size_of f a < size_of f b) where
  abbrev p : ℕ
  p = f.fraction_bits

  abbrev x : ℕ
  x = unsigned_abs num * 2 ^ unit_bits f

  abbrev c : ℕ
  c = sign_bit num * 2 ^ (f.exponent_bits + f.fraction_bits) + suc (size_of f a)

  a-has : HasBits f num (size_of f a) a
  a-has = record { sign = one.sign; without = refl }

  b-has : HasBits f num (size_of f b) b
  b-has = record { sign = two.sign; without = refl }

  c-has : HasBits f num (suc (size_of f a)) c
  c-has = bits-from f num (suc (size_of f a)) c (let within = sound.within in omega (arith, within, less, b-finite)) refl

  differs : value_of f b ≢ value_of f a
  differs same =
      let sizes : size_of f b ≡ size_of f a =
      units-one p (size_of f b) (size_of f a) (same-units (sign_of f b) (sign_of f a) (units p (size_of f b)) (units p (size_of f a)) same) in
      omega (arith, sizes, less)

  as-near : distance f num den b ≡ distance f num den a
  as-near = let there = (one.finite a-finite).nearest b b-finite in let back = (two.finite b-finite).nearest a a-finite in omega (arith, there, back)

  pub not-two : ⊥
  not-two =
      let a-even = size-even p (size_of f a) sound.some ((one.finite a-finite).even b b-finite differs as-near) in
      let b-even = size-even p (size_of f b) sound.some ((two.finite b-finite).even a a-finite (λ e. differs (sym e)) (sym as-near)) in
      let c-finite : IsFinite f c = let size = c-has.without in omega (arith, size, less, b-finite) in
      let nearer = (one.finite a-finite).nearest c c-finite in
      let a-far = own-distance f num den (size_of f a) a a-has in
      let b-far = own-distance f num den (size_of f b) b b-has in
      let c-far = own-distance f num den (suc (size_of f a)) c c-has in
      let above : units p (size_of f a) * den < units p (suc (size_of f a)) * den =
      mul-lt-mul_of_pos_right (units-below p (size_of f a) (suc (size_of f a)) (omega arith)) positive in
      let below : units p (suc (size_of f a)) * den < units p (size_of f b) * den =
      mul-lt-mul_of_pos_right (units-below p (suc (size_of f a)) (size_of f b) (omega (arith, a-even, b-even, less))) positive in
      between x (units p (size_of f a) * den) (units p (suc (size_of f a)) * den) (units p (size_of f b) * den)
      (far p x den (size_of f a)) (far p x den (suc (size_of f a))) (far p x den (size_of f b)) refl refl refl above below
      (sym b-far ∙ as-near ∙ a-far) (omega (arith, nearer, a-far, c-far))
    where
      between : (x a c b af cf bf : ℕ) → af ≡ (x - a) + (a - x) → cf ≡ (x - c) + (c - x) → bf ≡ (x - b) + (b - x) → a < c → c < b → bf ≡ af → af ≤ cf → ⊥
      between x a c b af cf bf d e g h i same near = omega (arith, d, e, g, h, i, same, near)

-- two nearest numbers are one
pub nearest-one : (f : Format) (num : ℤ) (den a b : ℕ) → IsSound f → 0 < den → IsNearest f num den a → IsNearest f num den b → a ≡ b
nearest-one f num den a b sound positive one two =
    whole-bits (2 ^ (f.exponent_bits + f.fraction_bits)) a b (one.sign ∙ sym two.sign) (by-order (cases_order (size_of f a) (size_of f b)))
  where
    finite : (c d : ℕ) → IsNearest f num den c → IsNearest f num den d → size_of f c < size_of f d → IsFinite f d
    finite c d near far-one less = by-end (cases_order (size_of f d) (infinity f))
      where
        by-end : (size_of f d ≡ infinity f) ⊎ ((size_of f d < infinity f) ⊎ (infinity f < size_of f d)) → IsFinite f d
        by-end (inl same) =
            let other : size_of f c ≡ infinity f = near.infinite.1 (far-one.infinite.0 same) in absurd (omega (arith, other, same, less))
        by-end (inr (inl within)) = within
        by-end (inr (inr past)) = let number = far-one.number in absurd (omega (arith, number, past))

    by-order : (size_of f a ≡ size_of f b) ⊎ ((size_of f a < size_of f b) ⊎ (size_of f b < size_of f a)) → size_of f a ≡ size_of f b
    by-order (inl same) = same
    by-order (inr (inl less)) =
        let end = finite a b one two less in absurd (not-two f num den a b sound positive one two (omega (arith, less, end)) end less)
    by-order (inr (inr more)) =
        let end = finite b a two one more in absurd (not-two f num den b a sound positive two one (omega (arith, more, end)) end more)
