-- Least common multiples.
use Rattle.std.proofs.Common.{◌≡◌, ℕ, zero, suc, ◌*◌, ◌/◌, ◌%◌, ◌<◌, arith, Option, Some, None, IsNone, IfNone, IfSome, ◌↔◌, refl, subst, sym, ap, ◌∙◌}
use Rattle.std.specs.Int.{IsGcd, ◌∣◌}
use Rattle.std.proofs.lemmas.Nat.Gcd.{dvd-zero, dvd_antisymm, dvd_trans, IsGcd-from_zero, IsGcd-from_mod}
use Rattle.std.proofs.Math.Nat.{mul_comm, mul_assoc, div-mul_cancel, mul-div_cancel', dvd-mul_left, dvd-mul_right, mul-dvd-mul_left, mul-dvd-mul_right, dvd_of_mul-dvd-mul_left, dvd_of_mul-dvd-mul_right}
use Rattle.ratio128.specs.Ratio.{IsLcm}

-- each two numbers have one
gcd_below : (f a b : ℕ) → b < f → (g : ℕ) × IsGcd a b g
gcd_below zero a b below = absurd (omega arith)
gcd_below (suc f) a zero below = (a, IsGcd-from_zero a zero refl)
gcd_below (suc f) a (suc b) below =
    let smaller : a % suc b < suc b = omega arith in
    let rest = gcd_below f (suc b) (a % suc b) (omega arith) in
    (rest.0, IsGcd-from_mod a (suc b) rest.0 rest.1)

-- a factor of both comes out
pub IsGcd-scaled : (n a b g : ℕ) → 0 < n → IsGcd a b g → IsGcd (n * a) (n * b) (n * g)
IsGcd-scaled n a b g positive is =
    let all = gcd_below (suc (n * b)) (n * a) (n * b) (omega arith) in
    let factor : n ∣ all.0 = all.1.2 n (dvd-mul_right n a) (dvd-mul_right n b) in
    let h = all.0 / n in
    let split : n * (all.0 / n) ≡ all.0 = mul-div_cancel' n factor in
    let left : n * h ∣ n * a = rw split all.1.0 in
    let right : n * h ∣ n * b = rw split all.1.1 in
    let inner : h ∣ g = is.2 h (dvd_of_mul-dvd-mul_left h positive left) (dvd_of_mul-dvd-mul_left h positive right) in
    let within : all.0 ∣ n * g = let P : ℕ → Type 0 = λ m. m ∣ n * g in subst P split (mul-dvd-mul_left h n inner) in (
      mul-dvd-mul_left g n is.0,
      mul-dvd-mul_left g n is.1,
      λ d p q. dvd_trans d (all.1.2 d p q) within,
    )

-- the product, less a common factor, is the least common multiple
pub IsLcm-from_IsGcd : (a b g : ℕ) → 0 < g → IsGcd a b g → IsLcm a b (a * (b / g))
IsLcm-from_IsGcd a b g positive is =
    let whole : a * (b / g) * g ≡ a * b = mul_assoc a (b / g) g ∙ ap (λ m. a * m) (div-mul_cancel g is.1) in
    let crossed : a / g * b ≡ a * (b / g) =
    ap (λ m. a / g * m) (sym (mul-div_cancel' g is.1)) ∙ sym (mul_assoc (a / g) g (b / g))
    ∙ ap (λ m. m * (b / g)) (div-mul_cancel g is.0) in
    record {
      first = dvd-mul_right a (b / g);
      second = let P : ℕ → Type 0 = λ m. b ∣ m in subst P crossed (dvd-mul_left b (a / g));
      least = λ n p q. divides n p q;
    }
  where
    divides : (n : ℕ) → a ∣ n → b ∣ n → a * (b / g) ∣ n
    divides zero p q = dvd-zero _
    divides (suc n) p q =
        let m = suc n in
        let first : a * b ∣ suc n * a = let P : ℕ → Type 0 = λ k. a * b ∣ k in subst P (mul_comm a m) (mul-dvd-mul_left b a q) in
        let second : a * b ∣ suc n * b = mul-dvd-mul_right a p b in
        let both : a * b ∣ suc n * g = (IsGcd-scaled (suc n) a b g (omega arith) is).2 (a * b) first second in
        let P : ℕ → Type 0 = λ k. k ∣ suc n * g in
        dvd_of_mul-dvd-mul_right (a * (b / g)) positive
        (subst P (sym (mul_assoc a (b / g) g ∙ ap (λ m. a * m) (div-mul_cancel g is.1))) both)

-- no common multiple is less, but 0
pub IsLcm-unique : (a b m k : ℕ) → IsLcm a b m → IsLcm a b k → m ≡ k
IsLcm-unique a b m k one two = dvd_antisymm (one.least k two.first two.second) (two.least m one.first one.second)

pub none_passes : (a b g bound : ℕ) (r : Option ℕ) → 0 < g → IsGcd a b g → (IsNone r ↔ (bound < a * (b / g))) →
    IfNone r ((m : ℕ) → IsLcm a b m → bound < m)
none_passes a b g bound None positive is passed = λ m least.
    let same : a * (b / g) ≡ m = IsLcm-unique a b _ m (IsLcm-from_IsGcd a b g positive is) least in
    let P : ℕ → Type 0 = λ k. bound < k in subst P same (passed.0 refl)
none_passes a b g bound (Some m) positive is passed = tt

pub some_is_least : (a b g : ℕ) (r : Option ℕ) → 0 < g → IsGcd a b g → IfSome r (λ p. p ≡ a * (b / g)) → IfSome r (IsLcm a b)
some_is_least a b g None positive is product = tt
some_is_least a b g (Some m) positive is product =
    let P : ℕ → Type 0 = λ k. IsLcm a b k in subst P (sym product) (IsLcm-from_IsGcd a b g positive is)
