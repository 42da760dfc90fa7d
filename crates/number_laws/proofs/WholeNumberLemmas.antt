-- Whole numbers times natural ones.
use Rattle.std.proofs.Common.{◌≡◌, ℕ, zero, suc, ◌+◌, ◌*◌, ◌/◌, ◌<◌, unsigned_abs, ℤ, pos, negsuc, neg_ℤ, ◌+ℤ◌, ◌*ℤ◌, arith, ap, sym, ◌∙◌}
use Rattle.std.proofs.lemmas.Int.{ints, unsigned_abs-mul}
use Rattle.std.proofs.Math.Nat.{mul-div_cancel_left}
use Rattle.std.proofs.Math.IntN.{*ℤ-one, suc_ℤ-*ℤ, zero-*ℤ, +ℤ_idl, pos-ne-negsuc, pos-*ℤ-pos, pos-*ℤ-negsuc}

pub swap_middle : (a b c d : ℤ) → (a +ℤ b) +ℤ (c +ℤ d) ≡ (a +ℤ c) +ℤ (b +ℤ d)
swap_middle a b c d = omega (arith, ints)

swap_last : (a b c : ℤ) → (a +ℤ b) +ℤ c ≡ (a +ℤ c) +ℤ b
swap_last a b c = omega (arith, ints)

-- once more
suc-times : (n : ℕ) (k : ℤ) → pos (suc n) *ℤ k ≡ pos n *ℤ k +ℤ k
suc-times n k = suc_ℤ-*ℤ (pos n) k

pub pos-distrib : (w : ℕ) (x y : ℤ) → pos w *ℤ (x +ℤ y) ≡ pos w *ℤ x +ℤ pos w *ℤ y
pos-distrib zero x y = zero-*ℤ (x +ℤ y) ∙ sym (ap (λ z. z +ℤ pos zero *ℤ y) (zero-*ℤ x) ∙ ap (λ z. pos zero +ℤ z) (zero-*ℤ y))
pos-distrib (suc w) x y =
    suc-times w (x +ℤ y)
    ∙ ap (λ z. z +ℤ (x +ℤ y)) (pos-distrib w x y)
    ∙ swap_middle (pos w *ℤ x) (pos w *ℤ y) x y
    ∙ ap (λ z. z +ℤ (pos w *ℤ y +ℤ y)) (sym (suc-times w x))
    ∙ ap (λ z. pos (suc w) *ℤ x +ℤ z) (sym (suc-times w y))

pub pos-sum : (v w : ℕ) (x : ℤ) → pos v *ℤ x +ℤ pos w *ℤ x ≡ pos (v + w) *ℤ x
pos-sum zero w x =
    let none : w ≡ 0 + w = omega arith in
    ap (λ z. z +ℤ pos w *ℤ x) (zero-*ℤ x) ∙ +ℤ_idl (pos w *ℤ x) ∙ ap (λ n. pos n *ℤ x) none
pos-sum (suc v) w x =
    let more : suc (v + w) ≡ suc v + w = omega arith in
    ap (λ z. z +ℤ pos w *ℤ x) (suc-times v x)
    ∙ swap_last (pos v *ℤ x) x (pos w *ℤ x)
    ∙ ap (λ z. z +ℤ x) (pos-sum v w x)
    ∙ sym (suc-times (v + w) x)
    ∙ ap (λ n. pos n *ℤ x) more

pub pos-assoc : (v w : ℕ) (x : ℤ) → pos v *ℤ (pos w *ℤ x) ≡ pos (v * w) *ℤ x
pos-assoc zero w x =
    let none : 0 ≡ 0 * w = omega arith in
    zero-*ℤ (pos w *ℤ x) ∙ sym (zero-*ℤ x) ∙ ap (λ n. pos n *ℤ x) none
pos-assoc (suc v) w x =
    let more : v * w + w ≡ suc v * w = omega arith in
    suc-times v (pos w *ℤ x)
    ∙ ap (λ z. z +ℤ pos w *ℤ x) (pos-assoc v w x)
    ∙ pos-sum (v * w) w x
    ∙ ap (λ n. pos n *ℤ x) more

pub pos-swap : (v w : ℕ) (x : ℤ) → pos v *ℤ (pos w *ℤ x) ≡ pos w *ℤ (pos v *ℤ x)
pos-swap v w x =
    let same : v * w ≡ w * v = omega arith in
    pos-assoc v w x ∙ ap (λ n. pos n *ℤ x) same ∙ sym (pos-assoc w v x)

times-cancel : (q a b : ℕ) → suc q * a ≡ suc q * b → a ≡ b
times-cancel q a b e =
    sym (mul-div_cancel_left a {n = suc q} (omega arith)) ∙ ap (λ n. n / suc q) e ∙ mul-div_cancel_left b {n = suc q} (omega arith)

-- a product has the sign of its second factor, where the first is above 0
pub sign-stays : (p q a b : ℕ) → 0 < q → pos p *ℤ pos a ≡ pos q *ℤ negsuc b → ⊥
sign-stays p zero a b positive e = absurd (omega arith)
sign-stays p (suc q) a b positive e =
    let below : suc q * suc b ≡ suc (b + q * suc b) = omega arith in
    pos-ne-negsuc _ _ (sym (pos-*ℤ-pos p a) ∙ e ∙ pos-*ℤ-negsuc (suc q) b ∙ ap (λ n. neg_ℤ (pos n)) below)

amounts : (q : ℕ) (x y : ℤ) → pos (suc q) *ℤ x ≡ pos (suc q) *ℤ y → unsigned_abs x ≡ unsigned_abs y
amounts q x y e =
    times-cancel q (unsigned_abs x) (unsigned_abs y)
    (sym (unsigned_abs-mul (pos (suc q)) x) ∙ ap unsigned_abs e ∙ unsigned_abs-mul (pos (suc q)) y)

-- a factor above 0 can be left out
pub pos-cancel : (q : ℕ) (x y : ℤ) → 0 < q → pos q *ℤ x ≡ pos q *ℤ y → x ≡ y
pos-cancel zero x y positive e = absurd (omega arith)
pos-cancel (suc q) (pos a) (pos b) positive e = ap pos (amounts q (pos a) (pos b) e)
pos-cancel (suc q) (pos a) (negsuc b) positive e = absurd (sign-stays (suc q) (suc q) a b positive e)
pos-cancel (suc q) (negsuc a) (pos b) positive e = absurd (sign-stays (suc q) (suc q) b a positive (sym e))
pos-cancel (suc q) (negsuc a) (negsuc b) positive e =
    let same : suc a ≡ suc b = amounts q (negsuc a) (negsuc b) e in ap negsuc (omega arith)

pub times-one : (x : ℤ) → x *ℤ pos 1 ≡ x
unfolding lib.IntN.one
times-one x = *ℤ-one x
