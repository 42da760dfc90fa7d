-- Numerators over a scale and over its multiples.
use Rattle.std.proofs.Common.{◌≡◌, ℕ, ◌*◌, ◌/◌, ◌%◌, ◌^◌, ◌<◌, ◌≤◌, ℤ, pos, negsuc, neg_ℤ, ◌*ℤ◌, unsigned_abs, int_lt, if◌then◌else◌, suc, arith, refl, ap, sym, ◌∙◌, subst, pow_pos}
use Rattle.std.specs.Int.{◌∣◌}
use Rattle.std.proofs.lemmas.Int.{unsigned_abs-mul}
use Rattle.std.proofs.lemmas.Nat.Gcd.{mod-eq-zero_of_dvd}
use Rattle.std.proofs.Math.Nat.{mul_assoc, mul_comm, dvd-mul_left, eq_of_mul-eq-mul_right}
use Rattle.nearest_float.specs.Binary.{Format, unit_bits, value_of}
use Rattle.nearest_float.specs.Exact.{IsExact}
use Rattle.nearest_float.proofs.DistanceLemmas.{neg-times}
use Rattle.nearest_float.proofs.TermLemmas.{coprime-divides}
use Rattle.std.proofs.lemmas.Bool.{le-ltb}
use Rattle.row_arrays.specs.Scale.{IsPowerOfTwo, IsOver, IsNumerator, HasNumerator}
use Rattle.row_arrays.specs.ScaleFaults.{IsLarge}
use Rattle.row_arrays.proofs.PowerLemmas.{power-divisor}

times-twice : (z : ℤ) (a b : ℕ) → z *ℤ pos a *ℤ pos b ≡ z *ℤ pos (a * b)
times-twice (pos n) a b = ap pos (mul_assoc n a b)
times-twice (negsuc n) a b = neg-times (suc n * a) b ∙ ap (λ m. neg_ℤ (pos m)) (mul_assoc (suc n) a b)

times-swap : (z : ℤ) (a b : ℕ) → z *ℤ pos a *ℤ pos b ≡ z *ℤ pos b *ℤ pos a
times-swap z a b = times-twice z a b ∙ ap (λ m. z *ℤ pos m) (mul_comm a b) ∙ sym (times-twice z b a)

-- over a multiple of the scale
scaled-same : (n v : ℤ) (one s q : ℕ) → n *ℤ pos one ≡ v *ℤ pos s → n *ℤ pos q *ℤ pos one ≡ v *ℤ pos (s * q)
scaled-same n v one s q same = times-swap n q one ∙ ap (λ z. z *ℤ pos q) same ∙ times-twice v s q

pub over-multiple : (f : Format) (s q t b : ℕ) (n : ℤ) → s * q ≡ t → IsOver f s b n → IsOver f t b (n *ℤ pos q)
over-multiple f s q t b n e over =
    subst (λ m. IsOver f m b (n *ℤ pos q)) e (record { same = scaled-same n (value_of f b) (2 ^ unit_bits f) s q over.same })

pub quotient-whole : (s t : ℕ) → s ∣ t → s * (t / s) ≡ t
quotient-whole s t divides = let none : t % s ≡ 0 = mod-eq-zero_of_dvd s divides in omega (arith, none)

pub has-multiple : (f : Format) (s t b : ℕ) → s ∣ t → HasNumerator f s b → HasNumerator f t b
has-multiple f s t b divides has = record {
  numerator = has.numerator *ℤ pos (t / s);
  over = over-multiple f s (t / s) t b has.numerator (quotient-whole s t divides) has.over;
}

-- an exact fraction is over its denominator
pub exact-over : (f : Format) (b den : ℕ) (num : ℤ) → IsExact f b num den → IsOver f den b num
exact-over f b den num exact = record { same = exact.terms.same }

amounts : (n v : ℤ) (one s : ℕ) → n *ℤ pos one ≡ v *ℤ pos s → unsigned_abs n * one ≡ unsigned_abs v * s
amounts n v one s same = sym (unsigned_abs-mul n (pos one)) ∙ ap unsigned_abs same ∙ unsigned_abs-mul v (pos s)

-- a denominator in lowest terms divides each other
lowest-divides : (n m v one den other : ℕ) → 0 < one → n * one ≡ v * den → m * one ≡ v * other → m * den ≡ n * other
lowest-divides n m v one den other some lowest over =
    eq_of_mul-eq-mul_right one some _ _
    (turned m den one ∙ ap (λ k. k * den) over ∙ turned v other den ∙ ap (λ k. k * other) (sym lowest) ∙ turned n one other)
  where
    turned : (a b c : ℕ) → a * b * c ≡ a * c * b
    turned a b c = omega arith

pub den-divides : (f : Format) (b den other : ℕ) (num : ℤ) → IsExact f b num den → 0 < other → HasNumerator f other b → den ∣ other
den-divides f b den other num exact some has =
    let cross = lowest-divides (unsigned_abs num) (unsigned_abs has.numerator) (unsigned_abs (value_of f b)) (2 ^ unit_bits f) den other (pow_pos (unit_bits f))
    (amounts num (value_of f b) (2 ^ unit_bits f) den exact.terms.same) (amounts has.numerator (value_of f b) (2 ^ unit_bits f) other has.over.same) in
    let P : ℕ → Type 0 = λ m. den ∣ m in
    coprime-divides (unsigned_abs num) den other some exact.terms.lowest (subst P cross (dvd-mul_left den (unsigned_abs has.numerator)))

-- a denominator is a power of two
pub den-power : (f : Format) (b den : ℕ) (num : ℤ) → IsExact f b num den → IsPowerOfTwo den
den-power f b den num exact =
    power-divisor (unit_bits f) den
    (den-divides f b den (2 ^ unit_bits f) num exact (pow_pos (unit_bits f)) (record { numerator = value_of f b; over = record { same = refl } }))

signed-times : (num : ℤ) (q : ℕ) → (if (int_lt num (pos 0)) then (neg_ℤ (pos (unsigned_abs num * q))) else (pos (unsigned_abs num * q))) ≡ num *ℤ pos q
signed-times (pos n) q = ap (λ b. if b then (neg_ℤ (pos (n * q))) else (pos (n * q))) (le-ltb n 0 (omega arith))
signed-times (negsuc n) q = refl

-- a fraction's numerator times how often the scale has its denominator
module _ (f : Format) (s b den : ℕ) (num : ℤ) (exact : IsExact f b num den) (some : 0 < s) (has : HasNumerator f s b) where
  times-over : IsOver f s b (num *ℤ pos (s / den))
  times-over = over-multiple f den (s / den) s b num (quotient-whole den s (den-divides f b den s num exact some has)) (exact-over f b den num exact)

  times-amount : unsigned_abs (num *ℤ pos (s / den)) ≡ unsigned_abs num * (s / den)
  times-amount = unsigned_abs-mul num (pos (s / den))

  pub is-numerator : (amount : ℕ) (z : ℤ) → amount ≡ unsigned_abs num * (s / den) → amount < 2 ^ 127 →
      z ≡ (if (int_lt num (pos 0)) then (neg_ℤ (pos amount)) else (pos amount)) → IsNumerator f s b z
  is-numerator amount z product fits is =
      let same : num *ℤ pos (s / den) ≡ z =
      sym (is ∙ ap (λ n. if (int_lt num (pos 0)) then (neg_ℤ (pos n)) else (pos n)) product ∙ signed-times num (s / den)) in
      subst (IsNumerator f s b) same (record { over = times-over; fits = omega (arith, times-amount, product, fits) })

  pub is-large : 2 ^ 127 ≤ unsigned_abs num * (s / den) → IsLarge f s b
  is-large large = record { numerator = num *ℤ pos (s / den); over = times-over; large = omega (arith, times-amount, large) }
