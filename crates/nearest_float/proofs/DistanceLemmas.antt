-- How far a number is from a fraction, by their signs.
use Rattle.std.proofs.Common.{◌≡◌, ◌⊎◌, ℕ, zero, suc, ◌+◌, ◌*◌, ℤ, pos, negsuc, neg_ℤ, ◌-ℤ◌, ◌*ℤ◌, unsigned_abs, int_lt, if◌then◌else◌, inl, inr, arith, refl, ap, sym, ◌∙◌}
use Rattle.std.specs.Int.{abs_diff}
use Rattle.std.proofs.lemmas.Int.{ints}
use Rattle.std.proofs.lemmas.Bool.{ne_eqb, le-ltb}
use Rattle.nearest_float.specs.Binary.{signed_by}

-- 1 below 0
abbrev pub sign_bit : ℤ → ℕ
sign_bit num = if (int_lt num (pos 0)) then 1 else 0

abbrev pub gap : ℤ → ℤ → ℕ → ℕ → ℕ
gap num value a den = unsigned_abs (num *ℤ pos a -ℤ value *ℤ pos den)

apart : (x y : ℕ) → unsigned_abs (pos x -ℤ pos y) ≡ abs_diff x y
apart x y = grind (arith, ints)

apart-below : (x y : ℕ) → unsigned_abs (neg_ℤ (pos x) -ℤ neg_ℤ (pos y)) ≡ abs_diff x y
apart-below x y = grind (arith, ints)

across : (x y : ℕ) → unsigned_abs (pos x -ℤ neg_ℤ (pos y)) ≡ x + y
across x y = grind (arith, ints)

across-below : (x y : ℕ) → unsigned_abs (neg_ℤ (pos x) -ℤ pos y) ≡ x + y
across-below x y = grind (arith, ints)

pub neg-times : (k b : ℕ) → neg_ℤ (pos k) *ℤ pos b ≡ neg_ℤ (pos (k * b))
neg-times zero b = let none : 0 ≡ 0 * b = omega arith in ap pos (sym none) ∙ ap (λ n. neg_ℤ (pos n)) none
neg-times (suc k) b = refl

pub sign_bit-above : (n : ℕ) → sign_bit (pos n) ≡ 0
sign_bit-above n = ap (λ b. if b then 1 else 0) (le-ltb n 0 (omega arith))

pub signed-below : (t u : ℕ) → signed_by (suc t) u ≡ neg_ℤ (pos u)
signed-below t u = ap (λ b. if b then (pos u) else (neg_ℤ (pos u))) (ne_eqb (suc t) 0 (λ same. omega (arith, same)))

-- numbers of one sign are as far apart as their amounts
pub gap-own : (num : ℤ) (u a den : ℕ) → gap num (signed_by (sign_bit num) u) a den ≡ abs_diff (unsigned_abs num * a) (u * den)
gap-own (pos n) u a den = ap (λ s. gap (pos n) (signed_by s u) a den) (sign_bit-above n) ∙ apart (n * a) (u * den)
gap-own (negsuc n) u a den = ap (λ z. unsigned_abs (neg_ℤ (pos (suc n * a)) -ℤ z)) (neg-times u den) ∙ apart-below (suc n * a) (u * den)

-- numbers of two signs, as their amounts together
pub gap-other : (num : ℤ) (t u a den : ℕ) →
    ((signed_by t u ≡ signed_by (sign_bit num) u) × (gap num (signed_by t u) a den ≡ abs_diff (unsigned_abs num * a) (u * den)))
    ⊎ (gap num (signed_by t u) a den ≡ unsigned_abs num * a + u * den)
gap-other (pos n) zero u a den = inl (ap (λ s. signed_by s u) (sym (sign_bit-above n)), apart (n * a) (u * den))
gap-other (pos n) (suc t) u a den =
    inr (ap (λ z. gap (pos n) z a den) (signed-below t u) ∙ ap (λ z. unsigned_abs (pos (n * a) -ℤ z)) (neg-times u den) ∙ across (n * a) (u * den))
gap-other (negsuc n) zero u a den = inr (across-below (suc n * a) (u * den))
gap-other (negsuc n) (suc t) u a den =
    inl (signed-below t u, ap (λ z. gap (negsuc n) z a den) (signed-below t u) ∙ gap-own (negsuc n) u a den)
