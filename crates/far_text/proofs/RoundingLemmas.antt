-- Equal fractions are rounded to one number.
use Rattle.std.proofs.Common.{◌≡◌, ℕ, zero, suc, ◌+◌, ◌*◌, ◌/◌, ◌%◌, ◌^◌, ◌<◌, ◌≤◌, ℤ, pos, negsuc, ◌*ℤ◌, unsigned_abs, Bool, true, false, ◌&&◌, ◌||◌, nat_eq, nat_lt, arith, refl, ap, sym, ◌∙◌, ◌++◌, if◌then◌else◌}
use Rattle.std.proofs.Math.IntN.{*ℤ_comm}
use Rattle.std.proofs.Math.Nat.{mul_assoc, mul-div-mul_left, mul-lt-mul_of_pos_left, mul-div_cancel_left, div-add-mod}
use Rattle.std.proofs.lemmas.Bool.{lt-ltb, ltb-true, le-ltb, ltb-false, eq-eqb, eqb-true}
use Rattle.std.proofs.lemmas.Int.{unsigned_abs-mul}
use Rattle.subdiv_model.specs.NumberText.{sign_text, goes_up, half_to_even, rounded_sign, decimal_text, rounded_text}
use Rattle.number_laws.proofs.WholeNumberLemmas.{sign-stays}

-- a number above 0 times two numbers is equal only if the two are equal
times-cancel : (k a b : ℕ) → 0 < k → k * a ≡ k * b → a ≡ b
times-cancel k a b positive e = sym (mul-div_cancel_left a {n = k} positive) ∙ ap (λ n. n / k) e ∙ mul-div_cancel_left b {n = k} positive

-- tests of numbers and of their multiples
less-cases : (k a b : ℕ) → 0 < k → (t : Bool) → nat_lt a b ≡ t → nat_lt (k * a) (k * b) ≡ t
less-cases k a b positive true h = lt-ltb (k * a) (k * b) (mul-lt-mul_of_pos_left {m = a} {n = b} {k = k} (ltb-true a b h) positive)
less-cases k a b positive false h = le-ltb (k * a) (k * b) (at-most k a b (ltb-false a b h))
  where
    at-most : (k a b : ℕ) → b ≤ a → k * b ≤ k * a
    at-most zero a b h = omega arith
    at-most (suc k) a b h = omega (arith, at-most k a b h)

less-scaled : (k a b : ℕ) → 0 < k → nat_lt (k * a) (k * b) ≡ nat_lt a b
less-scaled k a b positive = less-cases k a b positive (nat_lt a b) refl

same-cases : (k a b : ℕ) → 0 < k → (t s : Bool) → nat_eq a b ≡ t → nat_eq (k * a) (k * b) ≡ s → s ≡ t
same-cases k a b positive true true h g = refl
same-cases k a b positive false false h g = refl
same-cases k a b positive true false h g = sym g ∙ eq-eqb (k * a) (k * b) (ap (λ n. k * n) (eqb-true a b h))
same-cases k a b positive false true h g = sym (eq-eqb a b (times-cancel k a b positive (eqb-true (k * a) (k * b) g))) ∙ h

same-scaled : (k a b : ℕ) → 0 < k → nat_eq (k * a) (k * b) ≡ nat_eq a b
same-scaled k a b positive = same-cases k a b positive (nat_eq a b) (nat_eq (k * a) (k * b)) refl refl

-- the remainder of a multiple, over the same multiple
rest-scaled : (k a b : ℕ) → 0 < k → k * a % (k * b) ≡ k * (a % b)
rest-scaled k a b positive =
    let whole : k * b * (a / b) + k * a % (k * b) ≡ k * a =
    ap (λ q. k * b * q + k * a % (k * b)) (sym (mul-div-mul_left a b positive)) ∙ div-add-mod (k * a) (k * b) in
    let part : k * b * (a / b) + k * (a % b) ≡ k * a =
    ap (λ m. m + k * (a % b)) (mul_assoc k b (a / b)) ∙ sym (mul_add k (b * (a / b)) (a % b)) ∙ ap (λ n. k * n) (div-add-mod a b) in
    omega (arith, whole, part)
  where
    mul_add : (k m n : ℕ) → k * (m + n) ≡ k * m + k * n
    mul_add k m n = omega arith

goes_up-scaled : (k q r b : ℕ) → 0 < k → goes_up q (k * r) (k * b) ≡ goes_up q r b
goes_up-scaled k q r b positive =
    let twice : 2 * (k * r) ≡ k * (2 * r) = omega arith in
    ap (λ n. nat_lt (k * b) n || (nat_eq (k * b) n && nat_eq (q % 2) 1)) twice
    ∙ ap (λ t. t || (nat_eq (k * b) (k * (2 * r)) && nat_eq (q % 2) 1)) (less-scaled k b (2 * r) positive)
    ∙ ap (λ t. nat_lt b (2 * r) || (t && nat_eq (q % 2) 1)) (same-scaled k b (2 * r) positive)

pub half-scaled : (k a b : ℕ) → 0 < k → half_to_even (k * a) (k * b) ≡ half_to_even a b
half-scaled k a b positive =
    ap (λ q. if goes_up q (k * a % (k * b)) (k * b) then q + 1 else q) (mul-div-mul_left a b positive)
    ∙ ap (λ r. if goes_up (a / b) r (k * b) then a / b + 1 else a / b) (rest-scaled k a b positive)
    ∙ ap (λ t. if t then a / b + 1 else a / b) (goes_up-scaled k (a / b) (a % b) b positive)

-- by both fractions as multiples of one
half-same : (a b c d : ℕ) → 0 < b → 0 < d → a * d ≡ c * b → half_to_even a b ≡ half_to_even c d
half-same a b c d above below crossed =
    let nums : d * a ≡ b * c = omega (arith, crossed) in
    let dens : d * b ≡ b * d = omega arith in
    sym (half-scaled d a b below)
    ∙ ap (λ n. half_to_even n (d * b)) nums
    ∙ ap (λ n. half_to_even (b * c) n) dens
    ∙ half-scaled b c d above

-- both are below 0 or neither is
signs : (m n : ℤ) (d e : ℕ) → 0 < d → 0 < e → m *ℤ pos e ≡ n *ℤ pos d → sign_text m ≡ sign_text n
signs (pos a) (pos c) d e hd he h = refl
signs (negsuc a) (negsuc c) d e hd he h = refl
signs (pos a) (negsuc c) d e hd he h = absurd (sign-stays e d a c hd (*ℤ_comm (pos e) (pos a) ∙ h ∙ *ℤ_comm (negsuc c) (pos d)))
signs (negsuc a) (pos c) d e hd he h = absurd (sign-stays d e c a he (*ℤ_comm (pos d) (pos c) ∙ sym h ∙ *ℤ_comm (negsuc a) (pos e)))

rounded-signs : (m n : ℤ) (amount : ℕ) → sign_text m ≡ sign_text n → rounded_sign m amount ≡ rounded_sign n amount
rounded-signs m n zero e = refl
rounded-signs m n (suc amount) e = e

-- equal fractions have one text in decimals
pub rounded_text-same : (digits : ℕ) (m n : ℤ) (d e : ℕ) → 0 < d → 0 < e → m *ℤ pos e ≡ n *ℤ pos d → rounded_text digits m d ≡ rounded_text digits n e
rounded_text-same digits m n d e hd he h =
    let crossed : unsigned_abs m * e ≡ unsigned_abs n * d = sym (unsigned_abs-mul m (pos e)) ∙ ap unsigned_abs h ∙ unsigned_abs-mul n (pos d) in
    let unit = 10 ^ digits in
    let units : unsigned_abs m * unit * e ≡ unsigned_abs n * unit * d = moved (unsigned_abs m) (unsigned_abs n) unit d e crossed in
    let amount = half_to_even (unsigned_abs m * unit) d in
    ap (λ s. s ++ decimal_text digits amount) (rounded-signs m n amount (signs m n d e hd he h))
    ∙ ap (λ k. rounded_sign n k ++ decimal_text digits k) (half-same (unsigned_abs m * unit) d (unsigned_abs n * unit) e hd he units)
  where
    moved : (a c u d e : ℕ) → a * e ≡ c * d → a * u * e ≡ c * u * d
    moved a c u d e h =
        let left : a * u * e ≡ u * (a * e) = omega arith in
        let right : u * (c * d) ≡ c * u * d = omega arith in
        left ∙ ap (λ n. u * n) h ∙ right
