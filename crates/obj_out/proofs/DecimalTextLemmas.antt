-- The digits of a number, the highest first, and the text of a number with decimals.
use Rattle.std.proofs.Common.{◌≡◌, ◌≢◌, ℕ, zero, suc, ◌+◌, ◌*◌, ◌/◌, ◌%◌, ◌^◌, ◌<◌, ◌≤◌, ℤ, List, [], ◌∷◌, ◌++◌, length, length-append, unsigned_abs, arith, lit<, refl, append_assoc, ap, sym, ◌∙◌}
use Rattle.std.specs.Prelude.{codes, decimal}
use Rattle.std.proofs.Math.Nat.{mul_assoc, pow-suc, one-le-pow, pow-le-pow_right}
use Rattle.std.proofs.lemmas.Nat.{div-mul-add}
use Rattle.number_laws.proofs.DecimalLemmas.{number_text-step, decimal-number_text}
use Rattle.subdiv_model.specs.NumberText.{number_text, last_digits, decimal_text, half_to_even, rounded_sign, rounded_text}

-- a power of ten and less than that is a 1 before the last digits
one-before : (d n : ℕ) → n < 10 ^ d → number_text (10 ^ d + n) ≡ 49 ∷ last_digits d n
one-before zero n below = let one : 10 ^ zero + n ≡ 1 = omega arith in ap number_text one
one-before (suc d) n below =
    let ten = pow-suc 10 d in
    let some : 1 ≤ 10 ^ d = one-le-pow d 10 (lit< tt) in
    let high : (10 ^ suc d + n) / 10 ≡ 10 ^ d + n / 10 = omega (arith, ten) in
    let low : (10 ^ suc d + n) % 10 ≡ n % 10 = omega (arith, ten) in
    number_text-step (10 ^ suc d + n) (omega (arith, ten, some))
    ∙ ap (λ m. number_text m ++ (((10 ^ suc d + n) % 10 + 48) ∷ [])) high
    ∙ ap (λ ds. ds ++ (((10 ^ suc d + n) % 10 + 48) ∷ [])) (one-before d (n / 10) (omega (arith, ten, below)))
    ∙ ap (λ m. (49 ∷ last_digits d (n / 10)) ++ ((m + 48) ∷ [])) low

length-last_digits : (d n : ℕ) → length (last_digits d n) ≡ d
length-last_digits zero n = refl
length-last_digits (suc d) n =
    length-append (last_digits d (n / 10)) ((n % 10 + 48) ∷ []) ∙ omega (arith, length-last_digits d (n / 10))

pub power-short : (digits n : ℕ) → digits ≤ 18 → n < 10 ^ digits → 10 ^ digits + n < 2000000000000000000
power-short digits n few below = let most : 10 ^ digits ≤ 10 ^ 18 = pow-le-pow_right (lit< tt) few in omega arith

-- The digits written with a leading 1, and their length.
pub written-with-one : (digits n p : ℕ) (text : List ℕ) → digits ≤ 18 → n < 10 ^ digits → p ≡ 10 ^ digits → text ≡ decimal (p + n) → text ≡ 49 ∷ last_digits digits n
written-with-one digits n p text few below e is =
    is ∙ ap (λ m. decimal (m + n)) e ∙ decimal-number_text (10 ^ digits + n) (omega (arith, power-short digits n few below)) ∙ one-before digits n below

pub length-with-one : (digits n : ℕ) (text : List ℕ) → text ≡ 49 ∷ last_digits digits n → length text ≡ digits + 1
length-with-one digits n text is = ap length is ∙ omega (arith, length-last_digits digits n)

-- The last digits do not depend on the digits before them.
last-digits-rest : (d whole units : ℕ) → last_digits d (whole * 10 ^ d + units) ≡ last_digits d units
last-digits-rest zero whole units = refl
last-digits-rest (suc d) whole units =
    let more : whole * 10 ^ suc d + units ≡ whole * 10 ^ d * 10 + units =
    ap (λ m. whole * m + units) (pow-suc 10 d) ∙ ap (λ m. m + units) (sym (mul_assoc whole (10 ^ d) 10)) in
    let high : (whole * 10 ^ d * 10 + units) / 10 ≡ whole * 10 ^ d + units / 10 = omega arith in
    let low : (whole * 10 ^ d * 10 + units) % 10 ≡ units % 10 = omega arith in
    ap (λ m. last_digits (suc d) m) more
    ∙ ap (λ m. last_digits d m ++ (((whole * 10 ^ d * 10 + units) % 10 + 48) ∷ [])) high
    ∙ ap (λ m. last_digits d (whole * 10 ^ d + units / 10) ++ ((m + 48) ∷ [])) low
    ∙ ap (λ ds. ds ++ ((units % 10 + 48) ∷ [])) (last-digits-rest d whole (units / 10))

pub decimal-some : (d whole units : ℕ) → d ≢ 0 → units < 10 ^ d →
    decimal_text d (whole * 10 ^ d + units) ≡ number_text whole ++ (codes "." ++ last_digits d units)
decimal-some zero whole units some below = absurd (some refl)
decimal-some (suc d) whole units some below =
    ap (λ m. number_text m ++ (codes "." ++ last_digits (suc d) (whole * 10 ^ suc d + units))) (div-mul-add whole (10 ^ suc d) units below)
    ∙ ap (λ ds. number_text whole ++ (codes "." ++ ds)) (last-digits-rest (suc d) whole units)

-- three texts, one after another
pub put-three : (old one two three x y z : List ℕ) → one ≡ old ++ x → two ≡ one ++ y → three ≡ two ++ z → three ≡ old ++ (x ++ (y ++ z))
put-three old one two three x y z a b c =
    c ∙ ap (λ r. r ++ z) (b ∙ ap (λ r. r ++ y) a) ∙ append_assoc (old ++ x) y z ∙ append_assoc old x (y ++ z)

-- the sign and the number
pub put-rounded : (old one two : List ℕ) (digits : ℕ) (num : ℤ) (den n : ℕ) → n ≡ half_to_even (unsigned_abs num * 10 ^ digits) den →
    one ≡ old ++ rounded_sign num n → two ≡ one ++ decimal_text digits n → two ≡ old ++ rounded_text digits num den
put-rounded old one two digits num den n e a b =
    b ∙ ap (λ r. r ++ decimal_text digits n) a ∙ append_assoc old (rounded_sign num n) (decimal_text digits n)
    ∙ ap (λ m. old ++ (rounded_sign num m ++ decimal_text digits m)) e
