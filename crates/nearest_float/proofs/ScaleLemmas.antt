-- A fraction scaled to a quotient from 1 up to 2, and the size that its rounded quotient gives.
use Rattle.std.proofs.Common.{◌≡◌, ◌⊎◌, ℕ, ◌+◌, ◌-◌, ◌*◌, ◌%◌, ◌^◌, ◌<◌, ◌≤◌, inl, inr, min, arith, ap, sym, ◌∙◌, pow_pos, pow_mono}
use Rattle.std.proofs.lemmas.Nat.{pow-add}
use Rattle.std.proofs.lemmas.Bool.{cases_lt}
use Rattle.std.proofs.Math.Nat.{mul_assoc, mul_comm, add-mul, mul-le-mul_right, mul-lt-mul_of_pos_right, lt_of_mul-lt-mul_right}
use Rattle.nearest_float.specs.Scaled.{IsScaled, IsNearestSize, rounded_half_even}
use Rattle.nearest_float.proofs.NearLemmas.{nearest-same}
use Rattle.nearest_float.proofs.RoundLemmas.{nearest-rounded, rounded-most}

log-few : (a k : ℕ) → 2 ^ k ≤ a → a < 2 ^ 127 → k ≤ 126
log-few a k from fits = by-cases (cases_lt 126 k)
  where
    by-cases : (126 < k) ⊎ (k ≤ 126) → k ≤ 126
    by-cases (inl more) = let large : 2 ^ 127 ≤ 2 ^ k = pow_mono more in absurd (omega (arith, large, from, fits))
    by-cases (inr few) = few

-- shifted, a number has 127 bits
pub shifted-low : (a k : ℕ) → 2 ^ k ≤ a → a < 2 ^ 127 → 2 ^ 126 ≤ a * 2 ^ (126 - k)
shifted-low a k from fits =
    let few = log-few a k from fits in
    let sum : k + (126 - k) ≡ 126 = omega arith in
    let whole : 2 ^ k * 2 ^ (126 - k) ≡ 2 ^ 126 = sym (pow-add 2 k (126 - k)) ∙ ap (λ n. 2 ^ n) sum in
    let least : 2 ^ k * 2 ^ (126 - k) ≤ a * 2 ^ (126 - k) = mul-le-mul_right (2 ^ (126 - k)) from in
    omega (arith, whole, least)

pub shifted-high : (a k : ℕ) → 2 ^ k ≤ a → a < 2 ^ 127 → a < 2 * 2 ^ k → a * 2 ^ (126 - k) < 2 ^ 127
shifted-high a k from fits to =
    let few = log-few a k from fits in
    let sum : k + (126 - k) ≡ 126 = omega arith in
    let whole : 2 ^ k * 2 ^ (126 - k) ≡ 2 ^ 126 = sym (pow-add 2 k (126 - k)) ∙ ap (λ n. 2 ^ n) sum in
    let most : a * 2 ^ (126 - k) < 2 * 2 ^ k * 2 ^ (126 - k) = mul-lt-mul_of_pos_right to (pow_pos (126 - k)) in
    let split : 2 * 2 ^ k * 2 ^ (126 - k) ≡ 2 * (2 ^ k * 2 ^ (126 - k)) = mul_assoc 2 (2 ^ k) (2 ^ (126 - k)) in
    omega (arith, whole, most, split)

same-scaled : (a d s i j e : ℕ) → i + e ≡ s + j → a * 2 ^ s * (d * 2 ^ j) ≡ a * 2 ^ i * 2 ^ e * d
same-scaled a d s i j e same =
    let both : 2 ^ i * 2 ^ e ≡ 2 ^ s * 2 ^ j = sym (pow-add 2 i e) ∙ ap (λ n. 2 ^ n) same ∙ pow-add 2 s j in
    first a (2 ^ s) d (2 ^ j) ∙ ap (λ n. a * d * n) (sym both) ∙ second a d (2 ^ i) (2 ^ e)
  where
    first : (a b c d : ℕ) → a * b * (c * d) ≡ a * c * (b * d)
    first a b c d = omega arith

    second : (a d m n : ℕ) → a * d * (m * n) ≡ a * m * n * d
    second a d m n = omega arith

-- the numbers of `widen`, of which the numerator is doubled where it is less
module _ (a d s k l : ℕ) (fine : 127 ≤ s) (a-fits : a < 2 ^ 127) (a-from : 2 ^ k ≤ a) (a-to : a < 2 * 2 ^ k)
    (d-fits : d < 2 ^ 127) (d-from : 2 ^ l ≤ d) (d-to : d < 2 * 2 ^ l) where
  top-whole : a * 2 ^ (126 - k) % 2 ^ 128 ≡ a * 2 ^ (126 - k)
  top-whole = let high = shifted-high a k a-from a-fits a-to in omega (arith, high)

  bottom-whole : d * 2 ^ (126 - l) % 2 ^ 128 ≡ d * 2 ^ (126 - l)
  bottom-whole = let high = shifted-high d l d-from d-fits d-to in omega (arith, high)

  pub scaled-over : d * 2 ^ (126 - l) % 2 ^ 128 ≤ a * 2 ^ (126 - k) % 2 ^ 128 →
      IsScaled (a * 2 ^ s) d (a * 2 ^ (126 - k) % 2 ^ 128) (d * 2 ^ (126 - l) % 2 ^ 128) (s + (126 - l) - (126 - k))
  scaled-over above =
      let dl = shifted-low d l d-from d-fits in
      let dh = shifted-high d l d-from d-fits d-to in
      let ah = shifted-high a k a-from a-fits a-to in record {
        wide = omega (arith, bottom-whole, dl);
        fits = omega (arith, bottom-whole, dh);
        above = above;
        below = omega (arith, bottom-whole, top-whole, dl, ah);
        same = ap (λ n. a * 2 ^ s * n) bottom-whole ∙ same-scaled a d s (126 - k) (126 - l) (s + (126 - l) - (126 - k)) (omega (arith, fine))
            ∙ ap (λ n. n * 2 ^ (s + (126 - l) - (126 - k)) * d) (sym top-whole);
      }

  pub scaled-under : a * 2 ^ (126 - k) % 2 ^ 128 < d * 2 ^ (126 - l) % 2 ^ 128 →
      IsScaled (a * 2 ^ s) d (a * 2 ^ (126 - k) % 2 ^ 128 * 2 % 2 ^ 128) (d * 2 ^ (126 - l) % 2 ^ 128) (s + (126 - l) - (126 - k) - 1)
  scaled-under under =
      let dl = shifted-low d l d-from d-fits in
      let dh = shifted-high d l d-from d-fits d-to in
      let al = shifted-low a k a-from a-fits in
      let ah = shifted-high a k a-from a-fits a-to in
      let e = s + (126 - l) - (126 - k) - 1 in
      let doubled : a * 2 ^ (126 - k) % 2 ^ 128 * 2 % 2 ^ 128 ≡ a * 2 ^ (126 - k) * 2 = omega (arith, ah) in
      let more : 2 ^ (126 - k + 1) ≡ 2 ^ (126 - k) * 2 = pow-add 2 (126 - k) 1 in
      let joined : a * 2 ^ (126 - k + 1) ≡ a * 2 ^ (126 - k) * 2 = ap (λ n. a * n) more ∙ sym (mul_assoc a (2 ^ (126 - k)) 2) in record {
        wide = omega (arith, bottom-whole, dl);
        fits = omega (arith, bottom-whole, dh);
        above = omega (arith, doubled, bottom-whole, dh, al);
        below = omega (arith, doubled, under, top-whole);
        same = ap (λ n. a * 2 ^ s * n) bottom-whole ∙ same-scaled a d s (126 - k + 1) (126 - l) e (omega (arith, fine))
            ∙ ap (λ n. n * 2 ^ e * d) (joined ∙ sym doubled);
      }

-- A quotient below 2, in p bits.
quotient-within : (t b q r f p : ℕ) → t < 2 * b → t * 2 ^ f ≡ q * b + r → f ≤ p → q < 2 * 2 ^ p
quotient-within t b q r f p below whole short =
    let few : 2 ^ f ≤ 2 ^ p = pow_mono short in
    let less : t * 2 ^ f < 2 * b * 2 ^ f = mul-lt-mul_of_pos_right below (pow_pos f) in
    let turned : 2 * b * 2 ^ f ≡ 2 * 2 ^ f * b = omega arith in
    let under : q < 2 * 2 ^ f = lt_of_mul-lt-mul_right b (omega (arith, whole, less, turned)) in
    omega (arith, under, few)

-- the size of a rounded quotient
pub nearest-scaled : (p x y t b k f q r : ℕ) → 0 < p → 0 < y → IsScaled x y t b k → f ≡ min p k → t * 2 ^ f ≡ q * b + r → r < b →
    IsNearestSize p x y ((k - f) * 2 ^ p + rounded_half_even q r b)
nearest-scaled p x y t b k f q r some positive scaled is whole rest =
    nearest-same p x y (t * 2 ^ k) b _ positive (omega (arith, rest)) scaled.same
    (nearest-rounded p (t * 2 ^ k) b (k - f) q r some numerator rest (hidden (cases_lt k p)) within)
  where
    numerator : t * 2 ^ k ≡ (q * b + r) * 2 ^ (k - f)
    numerator =
        let sum : k ≡ f + (k - f) = omega (arith, is) in
        ap (λ n. t * n) (ap (λ n. 2 ^ n) sum ∙ pow-add 2 f (k - f)) ∙ sym (mul_assoc t (2 ^ f) (2 ^ (k - f))) ∙ ap (λ n. n * 2 ^ (k - f)) whole

    within : q < 2 * 2 ^ p
    within = quotient-within t b q r f p scaled.below whole (omega (arith, is))

    hidden : (k < p) ⊎ (p ≤ k) → (k - f ≡ 0) ⊎ (2 ^ p ≤ q)
    hidden (inl less) = inl (omega (arith, is))
    hidden (inr more) =
        let all : p ≡ f = omega (arith, is) in
        let above : b * 2 ^ f ≤ t * 2 ^ f = mul-le-mul_right (2 ^ f) scaled.above in
        let turned : b * 2 ^ f ≡ 2 ^ f * b = mul_comm b (2 ^ f) in
        let next : (q + 1) * b ≡ q * b + b = omega arith in
        let below : 2 ^ f < q + 1 = lt_of_mul-lt-mul_right b (omega (arith, whole, above, turned, rest, next)) in
        let same : 2 ^ p ≡ 2 ^ f = ap (λ n. 2 ^ n) all in
        inr (omega (arith, below, same))

-- The size stays below that of infinity.
pub size-within : (x y t b k f q r p s : ℕ) → IsScaled x y t b k → f ≡ min p k → t * 2 ^ f ≡ q * b + r → p ≤ s → k ≤ s + 126 →
    (k - f) * 2 ^ p + rounded_half_even q r b ≤ (s + 128 - p) * 2 ^ p
size-within x y t b k f q r p s scaled is whole short few =
    let quotient : q < 2 * 2 ^ p = quotient-within t b q r f p scaled.below whole (omega (arith, is)) in
    let most = rounded-most q r b in
    let first : (k - f) * 2 ^ p ≤ (s + 126 - p) * 2 ^ p = mul-le-mul_right (2 ^ p) (omega (arith, is, short, few)) in
    let split : (s + 128 - p) * 2 ^ p ≡ (s + 126 - p) * 2 ^ p + 2 * 2 ^ p =
    ap (λ n. n * 2 ^ p) (two-more short) ∙ add-mul (s + 126 - p) 2 (2 ^ p) in
    omega (arith, quotient, most, first, split)
  where
    two-more : p ≤ s → s + 128 - p ≡ s + 126 - p + 2
    two-more less = omega (arith, less)

-- The doublings fit into their field.
pub size-fits : (k f p : ℕ) → k ≤ 1200 → p ≤ 52 → (k - f) * 2 ^ p ≤ 1200 * 2 ^ 52
size-fits k f p few short =
    let width : 2 ^ p ≤ 2 ^ 52 = pow_mono short in
    let first : (k - f) * 2 ^ p ≤ 1200 * 2 ^ p = mul-le-mul_right (2 ^ p) (omega arith) in
    omega (arith, width, first)
