-- A long division by the upper half of the divisor.
use Rattle.std.proofs.Common.{◌≡◌, ℕ, ◌+◌, ◌-◌, ◌*◌, ◌/◌, ◌%◌, ◌^◌, ◌<◌, ◌≤◌, arith, ap, ap₂, sym, ◌∙◌, pow_pos, pow_mono}
use Rattle.std.proofs.lemmas.Nat.{pow-add}
use Rattle.std.proofs.Math.Nat.{mul_assoc, add-mul, mul-le-mul_right, mul-le-mul_left, mul-lt-mul_of_pos_right, div-mul-le_self, lt_of_mul-lt-mul_right, lt-div-mul-add}

-- a difference of two numbers taken modulo 2 ^ 128, where it is less than that
pub wrapped-difference : (n d : ℕ) → d ≤ n → n < d + 2 ^ 128 → (n % 2 ^ 128 + (2 ^ 128 - d % 2 ^ 128)) % 2 ^ 128 ≡ n - d
wrapped-difference n d less fits = omega arith

whole-shift : (shift : ℕ) → shift ≤ 52 → 2 ^ (64 - shift) * 2 ^ shift ≡ 2 ^ 64
whole-shift shift short =
    let sum : 64 - shift + shift ≡ 64 = omega arith in sym (pow-add 2 (64 - shift) shift) ∙ ap (λ n. 2 ^ n) sum

abbrev pub guess : ℕ → ℕ → ℕ → ℕ
guess top bottom shift = top / 2 ^ (64 - shift) / (bottom / 2 ^ 64 + 1)

-- the quotient is not too great
pub guess-within : (top bottom shift : ℕ) → shift ≤ 52 → guess top bottom shift * bottom ≤ top * 2 ^ shift
guess-within top bottom shift short =
    let q = 2 ^ (64 - shift) in
    let f = 2 ^ shift in
    let d = bottom / 2 ^ 64 + 1 in
    let g = guess top bottom shift in
    let upper : bottom ≤ d * 2 ^ 64 = omega arith in
    let first : g * bottom ≤ g * (d * 2 ^ 64) = mul-le-mul_left g upper in
    let second : g * d * 2 ^ 64 ≤ top / q * 2 ^ 64 = mul-le-mul_right (2 ^ 64) (div-mul-le_self (top / q) d) in
    let third : top / q * q * f ≤ top * f = mul-le-mul_right f (div-mul-le_self top q) in
    let split : g * d * 2 ^ 64 ≡ g * (d * 2 ^ 64) = mul_assoc g d (2 ^ 64) in
    let joined : top / q * q * f ≡ top / q * 2 ^ 64 = mul_assoc (top / q) q f ∙ ap (λ n. top / q * n) (whole-shift shift short) in
    omega (arith, first, second, third, split, joined)

-- it has 53 bits
pub guess-few : (top bottom shift : ℕ) → shift ≤ 52 → 0 < bottom → top < 2 * bottom → guess top bottom shift < 2 ^ 53
guess-few top bottom shift short some below =
    let within = guess-within top bottom shift short in
    let few : 2 ^ shift ≤ 2 ^ 52 = pow_mono short in
    let most : top * 2 ^ shift ≤ top * 2 ^ 52 = mul-le-mul_left top few in
    lt_of_mul-lt-mul_right bottom (omega (arith, within, most))

-- and is at most 1 too small
pub guess-near : (top bottom shift : ℕ) → shift ≤ 52 → 2 ^ 126 ≤ bottom → top < 2 * bottom →
    top * 2 ^ shift < guess top bottom shift * bottom + 2 * bottom
guess-near top bottom shift short wide below =
    let q = 2 ^ (64 - shift) in
    let f = 2 ^ shift in
    let d = bottom / 2 ^ 64 + 1 in
    let g = guess top bottom shift in
    let few = guess-few top bottom shift short (omega arith) below in
    let first : top < top / q * q + q = lt-div-mul-add (pow_pos (64 - shift)) in
    let scaled : top * f < (top / q * q + q) * f = mul-lt-mul_of_pos_right first (pow_pos shift) in
    let split : (top / q * q + q) * f ≡ top / q * (q * f) + q * f = add-mul (top / q * q) q f ∙ ap (λ n. n + q * f) (mul_assoc (top / q) q f) in
    let joined : top / q * (q * f) + q * f ≡ top / q * 2 ^ 64 + 2 ^ 64 = ap₂ (λ m n. top / q * m + n) (whole-shift shift short) (whole-shift shift short) in
    let second : top / q < g * d + d = lt-div-mul-add (omega arith) in
    let third : g * (bottom / 2 ^ 64 * 2 ^ 64) ≤ g * bottom = mul-le-mul_left g (div-mul-le_self bottom (2 ^ 64)) in
    let product : g * d * 2 ^ 64 ≡ g * (bottom / 2 ^ 64 * 2 ^ 64) + g * 2 ^ 64 = expand g (bottom / 2 ^ 64) (2 ^ 64) in
    omega (arith, few, scaled, split, joined, second, third, product)
  where
    expand : (a b c : ℕ) → a * (b + 1) * c ≡ a * (b * c) + a * c
    expand a b c = omega arith

-- the rest over the divisor, by the difference
pub whole-first : (n g b r : ℕ) → g * b ≤ n → r ≡ n - g * b → n ≡ g * b + r
whole-first n g b r less is = omega (arith, less, is)

pub whole-second : (n g b r : ℕ) → g * b ≤ n → r ≡ n - g * b → b ≤ r → n ≡ (g + 1) * b + (r - b)
whole-second n g b r less is above = let split : (g + 1) * b ≡ g * b + b = omega arith in omega (arith, less, is, split, above)

-- the quotient has 53 bits
pub quotient-few : (top bottom shift q r : ℕ) → shift ≤ 52 → 0 < bottom → top < 2 * bottom → top * 2 ^ shift ≡ q * bottom + r → q < 2 ^ 53
quotient-few top bottom shift q r short some below is =
    let few : 2 ^ shift ≤ 2 ^ 52 = pow_mono short in
    let most : top * 2 ^ shift ≤ top * 2 ^ 52 = mul-le-mul_left top few in
    lt_of_mul-lt-mul_right bottom (omega (arith, is, most))
