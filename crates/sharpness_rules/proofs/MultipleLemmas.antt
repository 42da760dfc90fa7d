-- Least common multiples of a list.
use Rattle.std.proofs.Common.{◌≡◌, ℕ, zero, suc, ◌*◌, ◌/◌, ◌^◌, ◌<◌, ◌≤◌, arith, subst, sym, ap, ◌∙◌, List, [], ◌∷◌, ◌++◌, length, map}
use Rattle.std.specs.Int.{IsGcd, ◌∣◌}
use Rattle.std.proofs.lemmas.Nat.Gcd.{dvd-zero, dvd_refl, dvd_trans, le_of_dvd}
use Rattle.std.proofs.lemmas.List.{map_push}
use Rattle.std.proofs.Math.Nat.{mul-pos, zero-mul, dvd-mul_left, dvd-mul_right, eq-zero_of_zero-dvd, one-dvd}
use Rattle.ratio128.specs.Ratio.{IsLcm}
use Rattle.ratio128.proofs.LcmLemmas.{IsLcm-from_IsGcd, IsLcm-unique}
use Rattle.subdiv_model.specs.Fractions.{gcd_of}
use Rattle.subdiv_model.specs.Multiples.{lcm_of, lcm_of_all, common_denominator}
use Rattle.number_laws.proofs.FractionLemmas.{gcd_of-is}

IsLcm-of_zeros : (a b m : ℕ) → a ≡ 0 → IsLcm a b (a * m)
IsLcm-of_zeros a b m e =
    let none : a * m ≡ 0 = ap (λ n. n * m) e ∙ zero-mul m in
    record {
      first = dvd-mul_right a m;
      second = let P : ℕ → Type 0 = λ n. b ∣ n in subst P (sym none) (dvd-zero b);
      least = λ n p q. let P : ℕ → Type 0 = λ k. k ∣ n in subst P (e ∙ sym none) p;
    }

pub lcm_of-is : (a b : ℕ) → IsLcm a b (lcm_of a b)
lcm_of-is a b = from (gcd_of a b) (gcd_of-is a b)
  where
    from : (g : ℕ) → IsGcd a b g → IsLcm a b (a * (b / g))
    from zero is = IsLcm-of_zeros a b (b / 0) (eq-zero_of_zero-dvd is.0)
    from (suc g) is = IsLcm-from_IsGcd a b (suc g) (omega arith) is

IsLcm-swap : (a b m : ℕ) → IsLcm a b m → IsLcm b a m
IsLcm-swap a b m is = record {
  first = is.second;
  second = is.first;
  least = λ n p q. is.least n q p;
}

-- a multiple of a number serves for both
pub IsLcm-multiple : (a b : ℕ) → b ∣ a → IsLcm a b a
IsLcm-multiple a b h = record {
  first = dvd_refl a;
  second = h;
  least = λ n p q. p;
}

lcm_of-assoc : (a b c : ℕ) → lcm_of a (lcm_of b c) ≡ lcm_of (lcm_of a b) c
lcm_of-assoc a b c =
    let all = lcm_of-is a (lcm_of b c) in
    let right = lcm_of-is b c in
    let left = lcm_of-is a b in
    IsLcm-unique (lcm_of a b) c _ _
    (record {
      first = left.least _ all.first (dvd_trans b right.first all.second);
      second = dvd_trans c right.second all.second;
      least = λ n p q. all.least n (dvd_trans a left.first p) (right.least n (dvd_trans b left.second p) q);
    })
    (lcm_of-is (lcm_of a b) c)

-- one more number
lcm_of_all-push : (ns : List ℕ) (n : ℕ) → lcm_of_all (ns ++ n ∷ []) ≡ lcm_of (lcm_of_all ns) n
lcm_of_all-push [] n = IsLcm-unique n 1 _ _ (lcm_of-is n 1) (IsLcm-swap 1 n _ (lcm_of-is 1 n))
lcm_of_all-push (m ∷ ns) n = ap (lcm_of m) (lcm_of_all-push ns n) ∙ lcm_of-assoc m (lcm_of_all ns) n

pub IsLcm-positive : (a b m : ℕ) → IsLcm a b m → 0 < a → 0 < b → 0 < m
IsLcm-positive a b zero is above below =
    let product : a * b ≡ 0 = eq-zero_of_zero-dvd (is.least (a * b) (dvd-mul_right a b) (dvd-mul_left b a)) in
    let positive : 0 < a * b = mul-pos above below in absurd (omega arith)
IsLcm-positive a b (suc m) is above below = omega arith

-- a value above 0 whose denominator is not too great
pub record IsProper (x : ℕ × ℕ) : Type 0 where
  pub above : 0 < x.0
  pub positive : 0 < x.1
  pub short : x.1 ≤ 2 ^ 60

abbrev pub AreProper : List (ℕ × ℕ) → Type 0
AreProper [] = Unit {0}
AreProper (x ∷ xs) = IsProper x × AreProper xs

pub AreProper-append : (xs ys : List (ℕ × ℕ)) → AreProper xs → AreProper ys → AreProper (xs ++ ys)
AreProper-append [] ys p q = q
AreProper-append (x ∷ xs) ys p q = (p.0, AreProper-append xs ys p.1 q)

pub common_denominator-positive : (values : List (ℕ × ℕ)) → AreProper values → 0 < common_denominator values
common_denominator-positive [] p = omega arith
common_denominator-positive (x ∷ xs) p = IsLcm-positive x.1 (common_denominator xs) _ (lcm_of-is x.1 (common_denominator xs)) p.0.positive (common_denominator-positive xs p.1)

-- one more value
pub common_denominator-push : (values : List (ℕ × ℕ)) (x : ℕ × ℕ)
    → common_denominator (values ++ x ∷ []) ≡ lcm_of (common_denominator values) x.1
common_denominator-push values x =
    ap lcm_of_all (map_push (λ y. y.1) values x) ∙ lcm_of_all-push (map (λ y. y.1) values) x.1

pub common_denominator-prefix : (xs ys : List (ℕ × ℕ)) → common_denominator xs ∣ common_denominator (xs ++ ys)
common_denominator-prefix [] ys = one-dvd _
common_denominator-prefix (x ∷ xs) ys =
    let all = lcm_of-is x.1 (common_denominator (xs ++ ys)) in
    (lcm_of-is x.1 (common_denominator xs)).least _ all.first (dvd_trans (common_denominator xs) (common_denominator-prefix xs ys) all.second)

-- more values have no lesser denominator
pub common_denominator-more : (xs ys : List (ℕ × ℕ)) (bound : ℕ) → AreProper (xs ++ ys) → bound < common_denominator xs
    → bound < common_denominator (xs ++ ys)
common_denominator-more xs ys bound positive passed =
    let less : common_denominator xs ≤ common_denominator (xs ++ ys) = le_of_dvd (common_denominator-positive (xs ++ ys) positive) (common_denominator-prefix xs ys) in
    omega arith

-- A single value has a denominator that is not too great.
lcm_of-one : (n : ℕ) → lcm_of n 1 ≡ n
lcm_of-one n = IsLcm-unique n 1 (lcm_of n 1) n (lcm_of-is n 1) (IsLcm-multiple n 1 (one-dvd n))

pub too_fine-some : (values : List (ℕ × ℕ)) → 2 ^ 60 < common_denominator values → 1 ≤ length values
too_fine-some [] h = absurd (omega arith)
too_fine-some (x ∷ xs) h = omega arith

pub too_fine-several : (values : List (ℕ × ℕ)) → AreProper values → 2 ^ 60 < common_denominator values → 2 ≤ length values
too_fine-several [] p h = absurd (omega arith)
too_fine-several (x ∷ []) p h =
    let one : lcm_of x.1 1 ≡ x.1 = lcm_of-one x.1 in
    let short : x.1 ≤ 2 ^ 60 = p.0.short in absurd (omega (arith, one, short))
too_fine-several (x ∷ (y ∷ ys)) p h = omega arith
