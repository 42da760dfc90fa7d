-- A fraction that a significand has exactly: its denominator is a power of two.
use Rattle.std.proofs.Common.{◌≡◌, ℕ, ◌+◌, ◌-◌, ◌*◌, ◌%◌, ◌^◌, ◌<◌, ◌≤◌, min, arith, ap, ap₂, sym, ◌∙◌, refl, subst, pow_pos, pow_mono}
use Rattle.std.proofs.lemmas.Nat.{pow-add}
use Rattle.std.proofs.Math.Nat.{mul_assoc, mul-lt-mul_of_pos_right}
use Rattle.nearest_float.specs.Scaled.{IsScaled, IsNearestSize}
use Rattle.nearest_float.proofs.ScaleLemmas.{scaled-over, shifted-low, shifted-high, nearest-scaled, size-within, size-fits}

powers : (a i e m n : ℕ) → i + e ≡ m + n → a * 2 ^ i * 2 ^ e ≡ a * 2 ^ m * 2 ^ n
powers a i e m n same =
    mul_assoc a (2 ^ i) (2 ^ e) ∙ ap (λ x. a * x) (sym (pow-add 2 i e) ∙ ap (λ x. 2 ^ x) same ∙ pow-add 2 m n) ∙ sym (mul_assoc a (2 ^ m) (2 ^ n))

-- An amount of k + 1 bits over 2 ^ l, in a format with p bits of fraction and 2 ^ s units for 1.
module _ (p a s k l : ℕ) (some : 0 < p) (short : p ≤ 52) (fine : 127 ≤ s) (unit-fits : s ≤ 1074)
    (from : 2 ^ k ≤ a) (to : a < 2 * 2 ^ k) (few : k ≤ p) (narrow : l < 64) where
  abbrev doubled : ℕ
  doubled = s + (126 - l) - (126 - k)

  fits : a < 2 ^ 127
  fits = let most : 2 ^ k ≤ 2 ^ 52 = pow_mono less in omega (arith, to, most)
    where
      less : k ≤ 52
      less = omega (arith, few, short)

  top-is : a * 2 ^ (126 - k) % 2 ^ 128 ≡ a * 2 ^ (126 - k)
  top-is = let high = shifted-high a k from fits to in omega (arith, high)

  bottom-is : 2 ^ l * 2 ^ (126 - l) % 2 ^ 128 ≡ 2 ^ 126
  bottom-is = let whole = whole in omega (arith, whole)
    where
      whole : 2 ^ l * 2 ^ (126 - l) ≡ 2 ^ 126
      whole = let sum : l + (126 - l) ≡ 126 = omega (arith, narrow) in sym (pow-add 2 l (126 - l)) ∙ ap (λ n. 2 ^ n) sum

  scaled : IsScaled (a * 2 ^ s) (2 ^ l) (a * 2 ^ (126 - k)) (2 ^ 126) doubled
  scaled =
      let below : 2 ^ l ≤ 2 ^ 63 = pow_mono least in
      let low = shifted-low a k from fits in
      let P : ℕ → Type 0 = λ n. IsScaled (a * 2 ^ s) (2 ^ l) n (2 ^ 126) doubled in
      let Q : ℕ → Type 0 = λ n. IsScaled (a * 2 ^ s) (2 ^ l) (a * 2 ^ (126 - k) % 2 ^ 128) n doubled in
      subst P top-is (subst Q bottom-is (scaled-over a (2 ^ l) s k l fine fits from to (omega (arith, below)) (omega arith) (omega (arith, pow_pos l))
      (omega (arith, top-is, bottom-is, low))))
    where
      least : l ≤ 63
      least = omega (arith, narrow)

  whole : a * 2 ^ (126 - k) * 2 ^ p ≡ a * 2 ^ (p - k) * 2 ^ 126 + 0
  whole = powers a (126 - k) p (p - k) 126 (omega (arith, few, short)) ∙ omega arith

  least : p ≡ min p doubled
  least = omega (arith, fine, narrow, few, short)

  size-is : (n : ℕ) → n ≡ (s + k - l - p) * 2 ^ p + a * 2 ^ (p - k) % 2 ^ 64 → n ≡ (doubled - p) * 2 ^ p + a * 2 ^ (p - k)
  size-is n is = is ∙ ap₂ (λ x y. x * 2 ^ p + y) same-doublings small
    where
      same-doublings : s + k - l - p ≡ doubled - p
      same-doublings = omega (arith, fine, narrow, few, short)

      joined : 2 * 2 ^ k * 2 ^ (p - k) ≡ 2 * 2 ^ p
      joined =
          let sum : k + (p - k) ≡ p = omega (arith, few) in
          mul_assoc 2 (2 ^ k) (2 ^ (p - k)) ∙ ap (λ x. 2 * x) (sym (pow-add 2 k (p - k)) ∙ ap (λ x. 2 ^ x) sum)

      small : a * 2 ^ (p - k) % 2 ^ 64 ≡ a * 2 ^ (p - k)
      small =
          let most : 2 ^ p ≤ 2 ^ 52 = pow_mono short in
          let less = mul-lt-mul_of_pos_right to (pow_pos (p - k)) in omega (arith, most, less, joined)

  pub nearest-exact : (n d : ℕ) → n ≡ (s + k - l - p) * 2 ^ p + a * 2 ^ (p - k) % 2 ^ 64 → d ≡ 1 * 2 ^ l % 2 ^ 64 → IsNearestSize p (a * 2 ^ s) d n
  nearest-exact n d is power =
      let P : ℕ → Type 0 = λ m. IsNearestSize p (a * 2 ^ s) (2 ^ l) m in
      let Q : ℕ → Type 0 = λ m. IsNearestSize p (a * 2 ^ s) m n in
      let small : 2 ^ l ≤ 2 ^ 63 = pow_mono least-bits in
      let same : d ≡ 2 ^ l = omega (arith, power, small) in
      subst Q (sym same) (subst P (sym (size-is n is)) (nearest-scaled p (a * 2 ^ s) (2 ^ l) (a * 2 ^ (126 - k)) (2 ^ 126) doubled p (a * 2 ^ (p - k)) 0
      some (pow_pos l) scaled least whole (omega arith)))
    where
      least-bits : l ≤ 63
      least-bits = omega (arith, narrow)

  pub exact-within : (n : ℕ) → n ≡ (s + k - l - p) * 2 ^ p + a * 2 ^ (p - k) % 2 ^ 64 → n ≤ (s + 128 - p) * 2 ^ p
  exact-within n is =
      let P : ℕ → Type 0 = λ m. m ≤ (s + 128 - p) * 2 ^ p in
      subst P (sym (size-is n is)) (size-within (a * 2 ^ s) (2 ^ l) (a * 2 ^ (126 - k)) (2 ^ 126) doubled p (a * 2 ^ (p - k)) 0 p s scaled least whole
      (omega (arith, short, fine)) (omega (arith, few, narrow, short)))

  pub exact-fits : (s + k - l - p) * 2 ^ p + a * 2 ^ (p - k) % 2 ^ 64 < 2 ^ 64
  exact-fits =
      let is = size-is ((s + k - l - p) * 2 ^ p + a * 2 ^ (p - k) % 2 ^ 64) refl in
      let first = size-fits doubled p p (omega (arith, few, unit-fits, short)) short in
      let most : 2 ^ p ≤ 2 ^ 52 = pow_mono short in
      let small = significand-small in
      omega (arith, is, first, most, small)
    where
      significand-small : a * 2 ^ (p - k) < 2 * 2 ^ p
      significand-small =
          let sum : k + (p - k) ≡ p = omega (arith, few) in
          let joined : 2 * 2 ^ k * 2 ^ (p - k) ≡ 2 * 2 ^ p = mul_assoc 2 (2 ^ k) (2 ^ (p - k)) ∙ ap (λ x. 2 * x) (sym (pow-add 2 k (p - k)) ∙ ap (λ x. 2 ^ x) sum) in
          let less = mul-lt-mul_of_pos_right to (pow_pos (p - k)) in omega (arith, less, joined)
