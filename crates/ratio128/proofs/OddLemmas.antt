-- Factors of two: the odd part of a number, and common divisors found without factors of two.
use Rattle.std.proofs.Common.{◌≡◌, ◌≢◌, ◌⊎◌, ℕ, zero, suc, ◌+◌, ◌-◌, ◌*◌, ◌/◌, ◌%◌, ◌^◌, ◌<◌, ◌≤◌, max, min, inl, inr, arith, subst, sym, ap, ◌∙◌}
use Rattle.std.specs.Int.{IsGcd, ◌∣◌, bit_at, w64, w128, trailing_zeros}
use Rattle.std.proofs.lemmas.Bool.{cases_lt}
use Rattle.std.proofs.lemmas.Nat.{pow_pos, pow-add, shr-shr}
use Rattle.std.proofs.lemmas.Nat.Bits.{bit_at-suc, bit_at_lowest, bit_at-trailing_zeros}
use Rattle.std.proofs.lemmas.Nat.Gcd.{dvd_refl, dvd_trans, dvd_of_mod-eq-zero, mod-eq-zero_of_dvd, le_of_dvd, IsGcd-swap, IsGcd-from_sub}
use Rattle.std.proofs.Math.Nat.{mul_comm, mul_assoc, div-div-eq-div-mul, dvd-mul_left, dvd-mul_right, dvd-sub, pow-suc, mul-one, div-one, min-eq_left, min-eq_right}
use Rattle.ratio128.proofs.LcmLemmas.{IsGcd-scaled}

-- a number whose lowest bits are 0 is a multiple of that power of two
whole-multiple : (k n : ℕ) → ((i : ℕ) → i < k → bit_at n i ≡ 0) → n / 2 ^ k * 2 ^ k ≡ n
whole-multiple zero n low = mul-one (n / 1) ∙ div-one n
whole-multiple (suc k) n low =
    let even : n % 2 ≡ 0 = sym (bit_at_lowest n) ∙ low 0 (omega arith) in
    let half : n / 2 / 2 ^ k * 2 ^ k ≡ n / 2 = whole-multiple k (n / 2) (λ i h. sym (bit_at-suc n i) ∙ low (suc i) (omega arith)) in
    let e : suc k ≡ 1 + k = omega arith in
    let quotient : n / 2 ^ suc k ≡ n / 2 / 2 ^ k = ap (λ m. n / 2 ^ m) e ∙ sym (shr-shr n 1 k) in
    ap (λ m. m * 2 ^ suc k) quotient
    ∙ ap (λ m. n / 2 / 2 ^ k * m) (pow-suc 2 k)
    ∙ sym (mul_assoc (n / 2 / 2 ^ k) (2 ^ k) 2)
    ∙ ap (λ m. m * 2) half
    ∙ omega (arith, even)

-- the odd part of a number is odd, and times its factors of two it is the number
pub odd-part : (n : ℕ) → 0 < n → n < 2 ^ 128 → n / 2 ^ trailing_zeros w128 n % 2 ≡ 1
odd-part n some fits = (bit_at-trailing_zeros w128 n some fits).1

pub odd-word : (n : ℕ) → 0 < n → n < 2 ^ 64 → n / 2 ^ trailing_zeros w64 n % 2 ≡ 1
odd-word n some fits = (bit_at-trailing_zeros w64 n some fits).1

pub odd-word-whole : (n : ℕ) → 0 < n → n < 2 ^ 64 → n / 2 ^ trailing_zeros w64 n * 2 ^ trailing_zeros w64 n ≡ n
odd-word-whole n some fits = whole-multiple (trailing_zeros w64 n) n (bit_at-trailing_zeros w64 n some fits).2

pub odd-part-whole : (n : ℕ) → 0 < n → n < 2 ^ 128 → n / 2 ^ trailing_zeros w128 n * 2 ^ trailing_zeros w128 n ≡ n
odd-part-whole n some fits = whole-multiple (trailing_zeros w128 n) n (bit_at-trailing_zeros w128 n some fits).2

-- an odd divisor of twice a number divides the number
halved-divisor : (d q : ℕ) → d % 2 ≡ 1 → d ∣ q * 2 → d ∣ q
halved-divisor d q odd within =
    let k = d / 2 in
    let twice : d ≡ d / 2 * 2 + 1 = omega arith in
    let more : d ∣ d / 2 * (q * 2) = dvd_trans d within (dvd-mul_left (q * 2) (d / 2)) in
    let less : d * q - d / 2 * (q * 2) ≡ q = ap (λ m. m * q - d / 2 * (q * 2)) twice ∙ rest (d / 2) q in
    let P : ℕ → Type 0 = λ m. d ∣ m in subst P less (dvd-sub d (dvd-mul_right d q) more)
  where
    rest : (k q : ℕ) → (k * 2 + 1) * q - k * (q * 2) ≡ q
    rest k q = omega arith

halved : (k d q : ℕ) → d % 2 ≡ 1 → d ∣ q * 2 ^ k → d ∣ q
halved zero d q odd within = let P : ℕ → Type 0 = λ m. d ∣ m in subst P (mul-one q) within
halved (suc k) d q odd within =
    let e : q * 2 ^ suc k ≡ q * 2 ^ k * 2 = ap (λ m. q * m) (pow-suc 2 k) ∙ sym (mul_assoc q (2 ^ k) 2) in
    let P : ℕ → Type 0 = λ m. d ∣ m in halved k d q odd (halved-divisor d (q * 2 ^ k) odd (subst P e within))

-- a divisor of an odd number is odd
odd-divisor : (p d : ℕ) → p % 2 ≡ 1 → d ∣ p → d % 2 ≡ 1
odd-divisor p d odd within =
    let some : d % 2 ≢ 0 = λ even. let none : p % 2 ≡ 0 = mod-eq-zero_of_dvd 2 (dvd_trans 2 (dvd_of_mod-eq-zero 2 even) within) in absurd (omega arith) in
    omega arith

-- factors of two in only one of two numbers change no common divisor
gcd-twos : (k p q g : ℕ) → p % 2 ≡ 1 → IsGcd p q g → IsGcd p (q * 2 ^ k) g
gcd-twos k p q g odd is = (
  is.0,
  dvd_trans g is.1 (dvd-mul_right q (2 ^ k)),
  λ d u v. is.2 d u (halved k d q (odd-divisor p d odd u) v),
)

-- a divisor of an odd number and of the odd part of another is that of the number itself
pub gcd-of-odd-part : (p n q k g : ℕ) → p % 2 ≡ 1 → q * 2 ^ k ≡ n → IsGcd p q g → IsGcd p n g
gcd-of-odd-part p n q k g odd whole is = subst (λ (m : ℕ). IsGcd p m g) whole (gcd-twos k p q g odd is)

-- a number and itself
pub gcd-of-same : (x y : ℕ) → x ≡ y → IsGcd x y x
gcd-of-same x y same = (dvd_refl x, (let P : ℕ → Type 0 = λ m. x ∣ m in subst P same (dvd_refl x)), λ d u v. u)

-- one step by a difference without its factors of two
pub gcd-of-difference : (x y q k g : ℕ) → x % 2 ≡ 1 → y % 2 ≡ 1 → q * 2 ^ k ≡ max x y - min x y → IsGcd (min x y) q g → IsGcd x y g
gcd-of-difference x y q k g one two whole is = by (cases_lt x y)
  where
    by : (x < y) ⊎ (y ≤ x) → IsGcd x y g
    by (inl below) =
        let h : x ≤ y = omega arith in
        let least : min x y ≡ x = min-eq_left h in
        let apart : max x y - min x y ≡ y - x = omega (arith, least, below) in
        let rest : IsGcd x (y - x) g = gcd-of-odd-part x (y - x) q k g one (whole ∙ apart) (subst (λ (m : ℕ). IsGcd m q g) least is) in
        IsGcd-swap y x g (IsGcd-from_sub y x g h (IsGcd-swap x (y - x) g rest))
    by (inr above) =
        let least : min x y ≡ y = min-eq_right above in
        let apart : max x y - min x y ≡ x - y = omega (arith, least, above) in
        let rest : IsGcd y (x - y) g = gcd-of-odd-part y (x - y) q k g two (whole ∙ apart) (subst (λ (m : ℕ). IsGcd m q g) least is) in
        IsGcd-from_sub x y g above (IsGcd-swap y (x - y) g rest)

-- the lesser power of two is a common factor of two numbers
gcd-parts : (i j p q g : ℕ) → i ≤ j → p % 2 ≡ 1 → IsGcd p q g → IsGcd (p * 2 ^ i) (q * 2 ^ j) (g * 2 ^ i)
gcd-parts i j p q g h odd is =
    let e : j ≡ j - i + i = omega arith in
    let whole : 2 ^ i * (q * 2 ^ (j - i)) ≡ q * 2 ^ j =
    mul_comm (2 ^ i) (q * 2 ^ (j - i)) ∙ mul_assoc q (2 ^ (j - i)) (2 ^ i) ∙ ap (λ m. q * m) (sym (pow-add 2 (j - i) i)) ∙ ap (λ m. q * 2 ^ m) (sym e) in
    let P : ℕ → ℕ → ℕ → Type 0 = λ a b c. IsGcd a b c in
    let scaled = IsGcd-scaled (2 ^ i) p (q * 2 ^ (j - i)) g (pow_pos i) (gcd-twos (j - i) p q g odd is) in
    subst (λ (a : ℕ). IsGcd a (q * 2 ^ j) (g * 2 ^ i)) (mul_comm (2 ^ i) p)
    (subst (λ (b : ℕ). IsGcd (2 ^ i * p) b (g * 2 ^ i)) whole
    (subst (λ (c : ℕ). IsGcd (2 ^ i * p) (2 ^ i * (q * 2 ^ (j - i))) c) (mul_comm (2 ^ i) g) scaled))

gcd-odds : (i j p q g : ℕ) → p % 2 ≡ 1 → q % 2 ≡ 1 → IsGcd p q g → IsGcd (p * 2 ^ i) (q * 2 ^ j) (g * 2 ^ min i j)
gcd-odds i j p q g one two is = by (cases_lt i j)
  where
    by : (i < j) ⊎ (j ≤ i) → IsGcd (p * 2 ^ i) (q * 2 ^ j) (g * 2 ^ min i j)
    by (inl below) =
        let h : i ≤ j = omega arith in
        subst (λ (m : ℕ). IsGcd (p * 2 ^ i) (q * 2 ^ j) (g * 2 ^ m)) (sym (min-eq_left h)) (gcd-parts i j p q g h one is)
    by (inr above) =
        subst (λ (m : ℕ). IsGcd (p * 2 ^ i) (q * 2 ^ j) (g * 2 ^ m)) (sym (min-eq_right above))
        (IsGcd-swap (q * 2 ^ j) (p * 2 ^ i) (g * 2 ^ j) (gcd-parts j i q p g above two (IsGcd-swap p q g is)))

-- the common divisor of the odd parts, with the common factors of two, is that of the numbers, and fits where they do
pub gcd-from-odds : (a b p q i j g m : ℕ) → 0 < a → a < 2 ^ 128 → p % 2 ≡ 1 → q % 2 ≡ 1 → p * 2 ^ i ≡ a → q * 2 ^ j ≡ b → IsGcd p q g → m ≡ min i j →
    IsGcd a b (g * 2 ^ m % 2 ^ 128)
gcd-from-odds a b p q i j g m some fits one two left right is least =
    let both : IsGcd a b (g * 2 ^ m) =
    subst (λ (n : ℕ). IsGcd n b (g * 2 ^ m)) left
    (subst (λ (n : ℕ). IsGcd (p * 2 ^ i) n (g * 2 ^ m)) right
    (subst (λ (n : ℕ). IsGcd (p * 2 ^ i) (q * 2 ^ j) (g * 2 ^ n)) (sym least) (gcd-odds i j p q g one two is))) in
    let within : g * 2 ^ m ≤ a = le_of_dvd some both.0 in
    let same : g * 2 ^ m % 2 ^ 128 ≡ g * 2 ^ m = omega arith in
    subst (λ (n : ℕ). IsGcd a b n) (sym same) both

-- a divisor may give up its factors of two, and what it divides as many
pub quotient-without-twos : (a b : ℕ) → 0 < b → b < 2 ^ 128 → a / 2 ^ trailing_zeros w128 b / (b / 2 ^ trailing_zeros w128 b) ≡ a / b
quotient-without-twos a b some fits =
    let twos = trailing_zeros w128 b in
    div-div-eq-div-mul a (2 ^ twos) (b / 2 ^ twos)
    ∙ ap (λ n. a / n) (mul_comm (2 ^ twos) (b / 2 ^ twos) ∙ odd-part-whole b some fits)

pub odd-part-positive : (b : ℕ) → 0 < b → b < 2 ^ 128 → 0 < b / 2 ^ trailing_zeros w128 b
odd-part-positive b some fits = let odd = odd-part b some fits in omega (arith, odd)

-- a number that is 1 without its factors of two divides as that power of two
pub power-quotient : (a b : ℕ) → 0 < b → b < 2 ^ 64 → b / 2 ^ trailing_zeros w64 b ≡ 1 → a / 2 ^ trailing_zeros w64 b ≡ a / b
power-quotient a b some fits one =
    let twos = trailing_zeros w64 b in
    let whole : b / 2 ^ twos * 2 ^ twos ≡ b = odd-word-whole b some fits in
    let once : 2 ^ twos ≡ 1 * 2 ^ twos = omega arith in
    ap (λ n. a / n) (once ∙ ap (λ n. n * 2 ^ twos) (sym one) ∙ whole)
