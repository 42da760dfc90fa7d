-- Least common multiples.
use Rattle.std.proofs.Common.{◌≡◌, ℕ, zero, suc, ◌*◌, ◌/◌, ◌<◌, List, [], ◌∷◌, arith, lit<, ap, sym, ◌∙◌, subst}
use Rattle.std.specs.List.{All, AllByRecursion, fold}
use Rattle.std.specs.Int.{◌∣◌}
use Rattle.std.proofs.lemmas.Nat.Gcd.{dvd_refl, dvd_trans, dvd-zero, same_from_IsGcd}
use Rattle.std.proofs.lemmas.List.Elements.{All-from_recursion, recursion_from_All}
use Rattle.std.proofs.Math.Nat.{mul_comm, mul_assoc, div-mul_cancel, mul-div_cancel', mul-div_cancel_left, dvd-mul_left, dvd-mul_right, mul-dvd-mul_left, mul-dvd-mul_right, dvd_of_mul-dvd-mul_right, one-dvd, div_self, mul-one}
use Rattle.subdiv_model.specs.Fractions.{gcd_of}
use Rattle.subdiv_model.specs.Multiples.{lcm_of, lcm_of_all}
use Rattle.number_laws.proofs.FractionLemmas.{gcd_of-is}
use Rattle.number_laws.proofs.DivisorLemmas.{factor-positive, gcd-positive, gcd-scaled}

-- what a denominator wants to become a multiple, times the denominator
pub first-multiple : (p r : ℕ) → 0 < p → lcm_of p r / p * p ≡ lcm_of p r
first-multiple p r positive =
    ap (λ n. n * p) (mul-div_cancel_left (r / gcd_of p r) positive) ∙ commuted p (r / gcd_of p r)
  where
    commuted : (a b : ℕ) → b * a ≡ a * b
    commuted a b = omega arith

lcm-other : (p r : ℕ) → lcm_of p r ≡ p / gcd_of p r * r
lcm-other p r =
    let g = gcd_of p r in
    let is = gcd_of-is p r in
    ap (λ m. m * (r / g)) (sym (div-mul_cancel g is.0)) ∙ mul_assoc (p / g) g (r / g) ∙ ap (λ m. p / g * m) (mul-div_cancel' g is.1)

pub second-multiple : (p r : ℕ) → lcm_of p r / r * r ≡ lcm_of p r
second-multiple p r =
    div-mul_cancel r (let P : ℕ → Type 0 = λ m. r ∣ m in subst P (sym (lcm-other p r)) (dvd-mul_left r (p / gcd_of p r)))

pub product-positive : (a b : ℕ) → 0 < a → 0 < b → 0 < a * b
product-positive zero b h k = absurd (omega arith)
product-positive (suc a) b h k = omega arith

pub lcm-positive : (p r : ℕ) → 0 < p → 0 < r → 0 < lcm_of p r
lcm-positive p r hp hr =
    let g = gcd_of p r in
    let is = gcd_of-is p r in
    product-positive p (r / g) hp (factor-positive (r / g) g r (div-mul_cancel g is.1) hr)

pub lcm-first : (a b : ℕ) → a ∣ lcm_of a b
lcm-first a b = dvd-mul_right a (b / gcd_of a b)

pub lcm-second : (a b : ℕ) → b ∣ lcm_of a b
lcm-second a b = let P : ℕ → Type 0 = λ m. b ∣ m in subst P (sym (lcm-other a b)) (dvd-mul_left b (a / gcd_of a b))

-- the least common multiple divides every common multiple
pub lcm-least : (a b n : ℕ) → 0 < b → a ∣ n → b ∣ n → lcm_of a b ∣ n
lcm-least a b zero positive p q = dvd-zero _
lcm-least a b (suc n) positive p q =
    let m = suc n in
    let g = gcd_of a b in
    let is = gcd_of-is a b in
    let first : a * b ∣ m * a = let P : ℕ → Type 0 = λ k. a * b ∣ k in subst P (mul_comm a m) (mul-dvd-mul_left b a q) in
    let second : a * b ∣ m * b = mul-dvd-mul_right a p b in
    let both : a * b ∣ gcd_of (m * a) (m * b) = (gcd_of-is (m * a) (m * b)).2 (a * b) first second in
    let scaled : a * b ∣ m * g = let P : ℕ → Type 0 = λ k. a * b ∣ k in subst P (gcd-scaled m a b (omega arith)) both in
    let whole : lcm_of a b * g ≡ a * b = mul_assoc a (b / g) g ∙ ap (λ k. a * k) (div-mul_cancel g is.1) in
    let P : ℕ → Type 0 = λ k. k ∣ m * g in
    dvd_of_mul-dvd-mul_right (lcm_of a b) (gcd-positive a b positive) (subst P (sym whole) scaled)

pub lcm_of_all-positive : (numbers : List ℕ) → AllByRecursion (λ a. 0 < a) numbers → 0 < lcm_of_all numbers
lcm_of_all-positive [] h = omega arith
lcm_of_all-positive (a ∷ numbers) h = lcm-positive a (lcm_of_all numbers) h.0 (lcm_of_all-positive numbers h.1)

all-divide : (numbers : List ℕ) (n : ℕ) → AllByRecursion (λ a. a ∣ lcm_of_all numbers) numbers → lcm_of_all numbers ∣ n → AllByRecursion (λ a. a ∣ n) numbers
all-divide numbers n h d = further numbers h
  where
    further : (some : List ℕ) → AllByRecursion (λ a. a ∣ lcm_of_all numbers) some → AllByRecursion (λ a. a ∣ n) some
    further [] k = tt
    further (a ∷ some) k = (dvd_trans a k.0 d, further some k.1)

pub all-divide_lcm : (numbers : List ℕ) → AllByRecursion (λ a. a ∣ lcm_of_all numbers) numbers
all-divide_lcm [] = tt
all-divide_lcm (a ∷ numbers) =
    (lcm-first a (lcm_of_all numbers), all-divide numbers (lcm_of_all (a ∷ numbers)) (all-divide_lcm numbers) (lcm-second a (lcm_of_all numbers)))

lcm-least_of_all : (numbers : List ℕ) (n : ℕ) → AllByRecursion (λ a. 0 < a) numbers → AllByRecursion (λ a. a ∣ n) numbers → lcm_of_all numbers ∣ n
lcm-least_of_all [] n h d = one-dvd n
lcm-least_of_all (a ∷ numbers) n h d =
    lcm-least a (lcm_of_all numbers) n (lcm_of_all-positive numbers h.1) d.0 (lcm-least_of_all numbers n h.1 d.1)

pub each-divides : (numbers : List ℕ) → All (λ a. a ∣ lcm_of_all numbers) numbers
each-divides numbers = All-from_recursion (λ a. a ∣ lcm_of_all numbers) numbers (all-divide_lcm numbers)

pub least-of-all : (numbers : List ℕ) (n : ℕ) → All (λ a. 0 < a) numbers → All (λ a. a ∣ n) numbers → lcm_of_all numbers ∣ n
least-of-all numbers n h d =
    lcm-least_of_all numbers n (recursion_from_All (λ a. 0 < a) numbers h) (recursion_from_All (λ a. a ∣ n) numbers d)

-- a divisor adds nothing
pub lcm-absorbs : (a b : ℕ) → 0 < b → b ∣ a → lcm_of a b ≡ a
lcm-absorbs a b positive divides =
    let common : gcd_of a b ≡ b = same_from_IsGcd a b (gcd_of a b) b (gcd_of-is a b) (divides, dvd_refl b, λ d p q. q) in
    ap (λ g. a * (b / g)) common ∙ ap (λ n. a * n) (div_self positive) ∙ mul-one a

-- neither does 1
pub lcm-one : (a : ℕ) → lcm_of a 1 ≡ a
lcm-one a = lcm-absorbs a 1 (lit< tt) (one-dvd a)

-- one by one, to a number to start with
pub fold-lcm-multiple : (start : ℕ) (numbers : List ℕ) → start ∣ fold lcm_of start numbers
fold-lcm-multiple start [] = dvd_refl start
fold-lcm-multiple start (a ∷ numbers) = dvd_trans start (lcm-first start a) (fold-lcm-multiple (lcm_of start a) numbers)

pub fold-lcm-positive : (start : ℕ) (numbers : List ℕ) → 0 < start → AllByRecursion (λ a. 0 < a) numbers → 0 < fold lcm_of start numbers
fold-lcm-positive start [] positive all = positive
fold-lcm-positive start (a ∷ numbers) positive all = fold-lcm-positive (lcm_of start a) numbers (lcm-positive start a positive all.0) all.1

-- each number divides the last multiple
pub fold-lcm-divided : (start : ℕ) (numbers : List ℕ) → AllByRecursion (λ a. a ∣ fold lcm_of start numbers) numbers
fold-lcm-divided start [] = tt
fold-lcm-divided start (a ∷ numbers) =
    (dvd_trans a (lcm-second start a) (fold-lcm-multiple (lcm_of start a) numbers), fold-lcm-divided (lcm_of start a) numbers)

-- the least common multiple divides each number that all numbers divide
pub fold-lcm-least : (start : ℕ) (numbers : List ℕ) (n : ℕ) → AllByRecursion (λ a. 0 < a) numbers → start ∣ n
    → AllByRecursion (λ a. a ∣ n) numbers → fold lcm_of start numbers ∣ n
fold-lcm-least start [] n all first each = first
fold-lcm-least start (a ∷ numbers) n all first each =
    fold-lcm-least (lcm_of start a) numbers n all.1 (lcm-least start a n all.0 first each.0) each.1
