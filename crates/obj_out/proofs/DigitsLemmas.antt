-- The digits of a number: their count, and their place behind a text.
use Rattle.std.proofs.Common.{◌≡◌, ℕ, zero, suc, ◌+◌, ◌*◌, ◌/◌, ◌^◌, ◌<◌, ◌≤◌, List, ◌++◌, length, take, drop, arith, lit<, ap, sym, ◌∙◌}
use Rattle.std.specs.Prelude.{decimal}
use Rattle.std.proofs.lemmas.List.{length-take}
use Rattle.std.proofs.lemmas.Fmt.{length-decimal-le, decimal_nonempty}
use Rattle.std.proofs.Math.Nat.{pow-suc, one-le-pow}
use Rattle.std.proofs.Math.Seq.{take-add, take-append_seam}
use Rattle.itoa.proofs.Decimal.{length_one, length_step_wide}

-- a number that is not below a power of ten has more digits than the power
at-least : (k n : ℕ) → 10 ^ k ≤ n → n < 2 ^ 64 → k + 1 ≤ length (decimal n)
at-least zero n many fits = omega (arith, decimal_nonempty n fits)
at-least (suc k) n many fits =
    let ten = pow-suc 10 k in
    let some : 1 ≤ 10 ^ k = one-le-pow k 10 (lit< tt) in
    let high : 10 ^ k ≤ n / 10 = omega (arith, ten, many) in
    let rest = at-least k (n / 10) high (omega arith) in
    omega (arith, rest, length_step_wide n (omega (arith, ten, some, many)) (omega arith))

-- a number from one power of ten to the next has as many digits as the next power's exponent
pub digits-between : (k n : ℕ) → 10 ^ k ≤ n → n < 10 * 10 ^ k → n < 2 ^ 64 → k + 1 ≡ length (decimal n)
digits-between k n many few fits =
    let next : 10 ^ suc k ≡ 10 ^ k * 10 = pow-suc 10 k in
    let most = length-decimal-le (suc k) n (omega arith) (omega (arith, next, few)) fits in
    omega (arith, most, at-least k n many fits)

pub digits-one : (n : ℕ) → n < 10 → 1 ≡ length (decimal n)
digits-one n below = sym (length_one n below)

-- Digits written up to their end follow the bytes before them.
pub digits-behind : (old new digits : List ℕ) (at start end : ℕ) → end ≡ at + length digits → start + length digits ≡ end →
    drop start new ≡ digits ++ drop end old → take start new ≡ take start old → take end new ≡ take at old ++ digits
digits-behind old new digits at start end e f written before =
    let same : start ≡ at = omega (arith, e, f) in
    ap (λ n. take n new) (sym f)
    ∙ take-add start (length digits) new
    ∙ ap (λ xs. xs ++ take (length digits) (drop start new)) before
    ∙ ap (λ xs. take start old ++ take (length digits) xs) written
    ∙ ap (λ xs. take start old ++ xs) (take-append_seam digits (drop end old))
    ∙ ap (λ n. take n old ++ digits) same

-- they fit where 20 more bytes fit
pub digits-fit : (bytes waiting : List ℕ) (at count : ℕ) → take at bytes ≡ waiting → at ≤ 4096 → length bytes ≡ 4096 → length waiting + 20 ≤ 4096 → count ≤ 20 →
    at + count ≤ length bytes
digits-fit bytes waiting at count e within whole fits few = omega (arith, ap length e, length-take at bytes, within, whole, fits, few)
