-- Tens that cancel, and the normal form of a numeral.
use Rattle.std.proofs.Common.{◌≡◌, ◌≢◌, ℕ, zero, suc, ◌+◌, ◌-◌, ◌*◌, ◌%◌, ◌^◌, ◌≤◌, nat_eq, arith, lit<, refl, ap, sym, ◌∙◌, if◌then◌else◌}
use Rattle.std.proofs.lemmas.Bool.{ne_eqb, cond-false}
use Rattle.std.proofs.lemmas.Grind.{pow_more}
use Rattle.std.proofs.lemmas.Nat.{mod-mul-add, pow-add}
use Rattle.std.proofs.Math.Nat.{mul-div_cancel, mul_assoc, mul-le-mul_left, one-le-pow}
use Rattle.subdiv_model.specs.Numeral.{cancelled}

pub ten-times : (x : ℕ) → (x * 10) % 10 ≡ 0
ten-times x = let same : x * 10 ≡ x * 10 + 0 = omega arith in ap (λ n. n % 10) same ∙ mod-mul-add x 10 0 (lit< tt)

pub cancelled-step : (x k : ℕ) → cancelled (x * 10) (suc k) ≡ cancelled x k
cancelled-step x k = rw (ten-times x, mul-div_cancel x {n = 10} (lit< tt)) refl

pub cancelled-stays : (x k : ℕ) → x % 10 ≢ 0 → cancelled x (suc k) ≡ (x, suc k)
cancelled-stays x k ends = rw (ne_eqb (x % 10) 0 ends) refl

-- the common tens cancel
pub cancelled-tens : (a z k : ℕ) → a % 10 ≢ 0 → cancelled (a * 10 ^ z) k ≡ (a * 10 ^ (z - k), k - z)
cancelled-tens a z zero ends =
    let left : z - 0 ≡ z = omega arith in
    let right : 0 - z ≡ 0 = omega arith in
    rw (left, right) refl
cancelled-tens a zero (suc k) ends =
    let one : a * 10 ^ 0 ≡ a = omega arith in
    let none : 0 - suc k ≡ 0 = omega arith in
    let left : suc k - 0 ≡ suc k = omega arith in
    ap (λ x. cancelled x (suc k)) one ∙ cancelled-stays a k ends ∙ ap (λ x. (x, suc k)) (sym one) ∙ sym (rw (none, left) refl)
cancelled-tens a (suc z) (suc k) ends =
    let more : a * 10 ^ suc z ≡ a * 10 ^ z * 10 = ap (λ e. a * 10 ^ e) (omega arith) ∙ ap (λ p. a * p) (pow_more 10 z) ∙ sym (mul_assoc a (10 ^ z) 10) in
    let left : z - k ≡ suc z - suc k = omega arith in
    let right : k - z ≡ suc k - suc z = omega arith in
    ap (λ x. cancelled x (suc k)) more ∙ cancelled-step (a * 10 ^ z) k ∙ cancelled-tens a z k ends ∙ ap (λ e. (a * 10 ^ e, k - z)) left ∙ ap (λ d. (a * 10 ^ (suc z - suc k), d)) right

tens-some : (a z : ℕ) → a ≢ 0 → a * 10 ^ z ≢ 0
tens-some a z some none =
    let one : 1 ≤ 10 ^ z = one-le-pow z 10 (lit< tt) in
    let times : a * 1 ≤ a * 10 ^ z = mul-le-mul_left a one in
    absurd (omega arith)

-- the amount and the decimals of a normal form, from the digits up to the last nonzero one and the zeros after it
pub normal-tens : (n up down a z : ℕ) → n ≡ a * 10 ^ z → a ≢ 0 → a % 10 ≢ 0
    → (if nat_eq n 0 then (0, 0) else cancelled (n * 10 ^ up) down) ≡ (a * 10 ^ ((z + up) - down), down - (z + up))
normal-tens n up down a z e some ends =
    let other : n ≢ 0 = λ none. tens-some a z some (sym e ∙ none) in
    let joined : n * 10 ^ up ≡ a * 10 ^ (z + up) = ap (λ k. k * 10 ^ up) e ∙ mul_assoc a (10 ^ z) (10 ^ up) ∙ ap (λ p. a * p) (sym (pow-add 10 z up)) in
    cond-false _ _ _ (ne_eqb n 0 other) ∙ ap (λ x. cancelled x down) joined ∙ cancelled-tens a (z + up) down ends
