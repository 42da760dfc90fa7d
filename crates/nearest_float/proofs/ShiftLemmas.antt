-- A quotient by 2 ^ 126, found by shifts.
use Rattle.std.proofs.Common.{◌≡◌, ℕ, ◌+◌, ◌-◌, ◌*◌, ◌/◌, ◌%◌, ◌^◌, ◌<◌, ◌≤◌, arith, ap, sym, ◌∙◌, pow_pos, pow_mono}
use Rattle.std.proofs.lemmas.Nat.{pow-add}
use Rattle.std.proofs.Math.Nat.{mul_assoc, add-mul, mul-lt-mul_of_pos_right, div-mul-le_self, lt_of_mul-lt-mul_right, lt-div-mul-add}

abbrev pub quotient : ℕ → ℕ → ℕ
quotient top shift = top / 2 ^ (126 - shift)

-- The remainder of the shifts.
abbrev pub rest : ℕ → ℕ → ℕ
rest top shift = (top - quotient top shift * 2 ^ (126 - shift) % 2 ^ 128) * 2 ^ shift % 2 ^ 128

whole-shift : (shift : ℕ) → shift ≤ 52 → 2 ^ (126 - shift) * 2 ^ shift ≡ 2 ^ 126
whole-shift shift short =
    let sum : 126 - shift + shift ≡ 126 = omega arith in sym (pow-add 2 (126 - shift) shift) ∙ ap (λ n. 2 ^ n) sum

within : (top shift : ℕ) → quotient top shift * 2 ^ (126 - shift) ≤ top
within top shift = div-mul-le_self top (2 ^ (126 - shift))

left-below : (top shift : ℕ) → shift ≤ 52 → (top - quotient top shift * 2 ^ (126 - shift)) * 2 ^ shift < 2 ^ 126
left-below top shift short =
    let near : top < quotient top shift * 2 ^ (126 - shift) + 2 ^ (126 - shift) = lt-div-mul-add (pow_pos (126 - shift)) in
    let below : top - quotient top shift * 2 ^ (126 - shift) < 2 ^ (126 - shift) = omega (arith, near, within top shift, pow_pos (126 - shift)) in
    let scaled = mul-lt-mul_of_pos_right below (pow_pos shift) in
    let whole = whole-shift shift short in omega (arith, scaled, whole)

-- nothing of it is cut off
pub rest-is : (top shift : ℕ) → top < 2 ^ 127 → shift ≤ 52 → rest top shift ≡ (top - quotient top shift * 2 ^ (126 - shift)) * 2 ^ shift
rest-is top shift fits short =
    let inner : quotient top shift * 2 ^ (126 - shift) % 2 ^ 128 ≡ quotient top shift * 2 ^ (126 - shift) = omega (arith, within top shift, fits) in
    let below = left-below top shift short in
    ap (λ n. (top - n) * 2 ^ shift % 2 ^ 128) inner ∙ omega (arith, below)

pub rest-below : (top shift : ℕ) → top < 2 ^ 127 → shift ≤ 52 → rest top shift < 2 ^ 126
rest-below top shift fits short = let is = rest-is top shift fits short in let below = left-below top shift short in omega (arith, is, below)

pub quotient-and-rest : (top shift : ℕ) → top < 2 ^ 127 → shift ≤ 52 → top * 2 ^ shift ≡ quotient top shift * 2 ^ 126 + rest top shift
quotient-and-rest top shift fits short =
    let q = quotient top shift in
    let p = 2 ^ (126 - shift) in
    let f = 2 ^ shift in
    let parts : top ≡ q * p + (top - q * p) = omega (arith, within top shift) in
    let split : (q * p + (top - q * p)) * f ≡ q * p * f + (top - q * p) * f = add-mul (q * p) (top - q * p) f in
    let joined : q * p * f ≡ q * 2 ^ 126 = mul_assoc q p f ∙ ap (λ n. q * n) (whole-shift shift short) in
    let is = rest-is top shift fits short in
    ap (λ n. n * f) parts ∙ split ∙ omega (arith, joined, is)

-- the quotient has 53 bits
pub quotient-few : (top shift : ℕ) → top < 2 ^ 127 → shift ≤ 52 → quotient top shift < 2 ^ 53
quotient-few top shift fits short =
    let less : 74 ≤ 126 - shift = omega (arith, short) in
    let least : 2 ^ 74 ≤ 2 ^ (126 - shift) = pow_mono less in
    lt_of_mul-lt-mul_right (2 ^ (126 - shift)) (omega (arith, within top shift, least, fits))
