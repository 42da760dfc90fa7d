-- Division to a number of decimals, and rounding half to even.
use Rattle.std.proofs.Common.{◌≡◌, ◌≢◌, ℕ, zero, suc, ◌+◌, ◌-◌, ◌*◌, ◌/◌, ◌%◌, ◌^◌, ◌<◌, ◌≤◌, Bool, true, false, ◌&&◌, ◌||◌, nat_eq, nat_lt, if◌then◌else◌, arith, lit<, refl, ap, sym, ◌∙◌}
use Rattle.std.proofs.Math.Nat.{mul_assoc, pow-suc, pow-le-pow_right, one-le-pow, mod-add-div', mod-eq-sub-div-mul, div-mul-le_self, mul-lt-mul_of_pos_right, lt_of_mul-lt-mul_right}
use Rattle.std.proofs.lemmas.Grind.{pow_more}
use Rattle.std.proofs.lemmas.Nat.{div-mul-add, mod-mul-add}
use Rattle.subdiv_model.specs.NumberText.{goes_up, half_to_even}

-- one decimal more
pub next-whole : (units den left rest q r c : ℕ) → units * den + left ≡ rest * 10 ^ c → q * den + r ≡ left * 10 →
    (units * 10 + q) * den + r ≡ rest * 10 ^ (c + 1)
next-whole units den left rest q r c h k =
    let e : (units * 10 + q) * den + r ≡ (units * den + left) * 10 = omega (arith, k) in
    e ∙ ap (λ m. m * 10) h ∙ mul_assoc rest (10 ^ c) 10 ∙ ap (λ m. rest * m) (sym (pow_more 10 c))

pub next-units : (units q c : ℕ) → units < 10 ^ c → q ≤ 9 → units * 10 + q < 10 ^ (c + 1)
next-units units q c h k = omega (arith, pow_more 10 c)

pub next-small : (units c : ℕ) → units < 10 ^ c → c ≤ 18 → units < 1000000000000000000
next-small units c h k = let most : 10 ^ c ≤ 10 ^ 18 = pow-le-pow_right (lit< tt) k in omega arith

-- the quotient in units of the last decimal, and its remainder
split : (low high den t q r : ℕ) → q * den + r ≡ low * t → (low + high * den) * t ≡ (high * t + q) * den + r
split low high den t q r e = omega (arith, e)

amount-units : (amount den t q r : ℕ) → q * den + r ≡ amount % den * t → amount * t ≡ (amount / den * t + q) * den + r
amount-units amount den t q r e =
    let parts : amount % den + amount / den * den ≡ amount = mod-add-div' amount den in
    ap (λ m. m * t) (sym parts) ∙ split (amount % den) (amount / den) den t q r e

quotient-units : (amount den t q r : ℕ) → r < den → q * den + r ≡ amount % den * t → amount * t / den ≡ amount / den * t + q
quotient-units amount den t q r below e = ap (λ m. m / den) (amount-units amount den t q r e) ∙ div-mul-add (amount / den * t + q) den r below

rest-units : (amount den t q r : ℕ) → r < den → q * den + r ≡ amount % den * t → amount * t % den ≡ r
rest-units amount den t q r below e = ap (λ m. m % den) (amount-units amount den t q r e) ∙ mod-mul-add (amount / den * t + q) den r below

-- only whether the quotient is odd counts
goes-up-same : (p q r den : ℕ) → p % 2 ≡ q % 2 → goes_up p r den ≡ goes_up q r den
goes-up-same p q r den e = ap (λ m. nat_lt den (2 * r) || (nat_eq den (2 * r) && nat_eq m 1)) e

chosen : (n den q r last : ℕ) (up : Bool) → n / den ≡ q → n % den ≡ r → last % 2 ≡ q % 2 → up ≡ goes_up last r den →
    half_to_even n den ≡ (if up then q + 1 else q)
chosen n den q r last up quotient rest odd e =
    ap (λ m. if goes_up m (n % den) den then m + 1 else m) quotient
    ∙ ap (λ m. if goes_up q m den then q + 1 else q) rest
    ∙ ap (λ b. if b then q + 1 else q) (sym (goes-up-same last q r den odd) ∙ sym e)

-- The remainder of the amount, from its whole part.
left-over : (amount den whole t q r : ℕ) → whole ≡ amount / den → q * den + r ≡ (amount - whole * den) * t → q * den + r ≡ amount % den * t
left-over amount den whole t q r is e =
    e ∙ ap (λ w. (amount - w * den) * t) is ∙ ap (λ m. m * t) (sym (mod-eq-sub-div-mul amount den))

-- a quotient that goes up, and one that stays
pub rounded-up : (amount den d q r last whole : ℕ) (up : Bool) → whole ≡ amount / den → r < den → q * den + r ≡ (amount - whole * den) * 10 ^ d →
    last % 2 ≡ (whole * 10 ^ d + q) % 2 → up ≡ goes_up last r den → up ≡ true → whole * 10 ^ d + q + 1 ≡ half_to_even (amount * 10 ^ d) den
rounded-up amount den d q r last whole up is below cut odd e goes =
    let low = left-over amount den whole (10 ^ d) q r is cut in
    ap (λ w. w * 10 ^ d + q + 1) is
    ∙ sym (chosen (amount * 10 ^ d) den (amount / den * 10 ^ d + q) r last true (quotient-units amount den (10 ^ d) q r below low)
    (rest-units amount den (10 ^ d) q r below low) (odd ∙ ap (λ w. (w * 10 ^ d + q) % 2) is) (sym goes ∙ e))

pub rounded-down : (amount den d q r last whole : ℕ) (up : Bool) → whole ≡ amount / den → r < den → q * den + r ≡ (amount - whole * den) * 10 ^ d →
    last % 2 ≡ (whole * 10 ^ d + q) % 2 → up ≡ goes_up last r den → up ≡ false → whole * 10 ^ d + q ≡ half_to_even (amount * 10 ^ d) den
rounded-down amount den d q r last whole up is below cut odd e stays =
    let low = left-over amount den whole (10 ^ d) q r is cut in
    ap (λ w. w * 10 ^ d + q) is
    ∙ sym (chosen (amount * 10 ^ d) den (amount / den * 10 ^ d + q) r last false (quotient-units amount den (10 ^ d) q r below low)
    (rest-units amount den (10 ^ d) q r below low) (odd ∙ ap (λ w. (w * 10 ^ d + q) % 2) is) (sym stays ∙ e))

-- the decimals of a fraction below 1 are below their unit
pub units-below : (rest den d t units : ℕ) → rest < den → t ≡ 10 ^ d → units ≡ rest * t / den → units < 10 ^ d
units-below rest den d t units below e is =
    let some : 1 ≤ 10 ^ d = one-le-pow d 10 (lit< tt) in
    let less : rest * t < den * t = mul-lt-mul_of_pos_right {m = rest} {n = den} {k = t} below (omega (arith, e, some)) in
    let most : rest * t / den * den ≤ rest * t = div-mul-le_self (rest * t) den in
    let turned : units * den < t * den = omega (arith, less, most, ap (λ u. u * den) is) in
    omega (arith, e, lt_of_mul-lt-mul_right den {m = units} {n = t} turned)

-- The number in units of the last decimal is odd if its last decimal is, or the whole number without decimals.
pub odd-none : (d whole units : ℕ) → d ≡ 0 → units < 10 ^ d → whole % 2 ≡ (whole * 10 ^ d + units) % 2
odd-none zero whole units none below = let same : whole ≡ whole * 1 + units = omega arith in ap (λ m. m % 2) same
odd-none (suc d) whole units none below = absurd (omega arith)

pub odd-some : (d whole units : ℕ) → d ≢ 0 → units % 2 ≡ (whole * 10 ^ d + units) % 2
odd-some zero whole units some = absurd (some refl)
odd-some (suc d) whole units some =
    let even : (whole * 10 ^ d * 10 + units) % 2 ≡ units % 2 = omega arith in
    sym even ∙ ap (λ m. (m + units) % 2) (mul_assoc whole (10 ^ d) 10) ∙ ap (λ m. (whole * m + units) % 2) (sym (pow-suc 10 d))
