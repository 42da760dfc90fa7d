-- Digits after a number, and numbers that are too long for a mantissa.
use Rattle.std.proofs.Common.{◌≡◌, ◌≢◌, ℕ, zero, suc, ◌+◌, ◌-◌, ◌*◌, ◌%◌, ◌^◌, ◌<◌, ◌≤◌, true, nat_le, List, [], ◌∷◌, length, take, drop, get_or, arith, lit<, ap, sym, subst, ◌∙◌}
use Rattle.std.specs.List.{fold, list_all}
use Rattle.std.proofs.lemmas.Bool.{and_parts, leb-true}
use Rattle.std.proofs.lemmas.Grind.{pow_more}
use Rattle.std.proofs.lemmas.List.{take-append-drop}
use Rattle.std.proofs.lemmas.List.Folds.{list_all-append}
use Rattle.std.proofs.lemmas.List.Sums.{fold-append, fold_more}
use Rattle.std.proofs.lemmas.Nat.{mod-mul-add}
use Rattle.std.proofs.Math.Nat.{pow-le-pow_right, mul-le-mul_left, mul-le-mul_right, mul_assoc, one-le-pow}
use Rattle.obj_text.specs.Significant.{IsLong, with_next_digit}
use Rattle.subdiv_model.specs.Digits.{is_digit}

-- 37 zeros after a digit are too many
pub zeros-far : (a z : ℕ) → a ≢ 0 → 37 ≤ z → 10 ^ 37 ≤ a * 10 ^ z
zeros-far a z some far =
    let grows : 10 ^ 37 ≤ 10 ^ z = pow-le-pow_right {n = 10} (lit< tt) {i = 37} {j = z} far in
    let times : 1 * 10 ^ z ≤ a * 10 ^ z = mul-le-mul_right (10 ^ z) (omega arith) in
    omega arith

pub tens-fit : (z : ℕ) → z ≤ 37 → 10 ^ z < 2 ^ 128
tens-fit z few =
    let grows : 10 ^ z ≤ 10 ^ 37 = pow-le-pow_right {n = 10} (lit< tt) {i = z} {j = 37} few in omega arith

-- a number that is long, with a last digit that is not 0
pub long-digit : (n d : ℕ) → 10 ^ 37 ≤ n * 10 + d → d ≢ 0 → d < 10 → IsLong (n * 10 + d)
long-digit n d long some digit =
    let last : (n * 10 + d) % 10 ≡ d = mod-mul-add n 10 d digit in
    record {
      amount = n * 10 + d;
      zeros = 0;
      says = omega arith;
      ends = λ none. absurd (omega arith);
      long = long;
    }

-- one more zero
pub more-zero : (a z n : ℕ) → n ≡ a * 10 ^ z → n * 10 ≡ a * 10 ^ (z + 1)
more-zero a z n e = ap (λ k. k * 10) e ∙ mul_assoc a (10 ^ z) 10 ∙ ap (λ p. a * p) (sym (pow_more 10 z))

pub times-tens : (a z : ℕ) → a ≤ a * 10 ^ z
times-tens a z =
    let some : 1 ≤ 10 ^ z = one-le-pow z 10 (lit< tt) in
    let times : a * 1 ≤ a * 10 ^ z = mul-le-mul_left a some in
    omega arith

pub long-more : (n d : ℕ) → IsLong n → d < 10 → IsLong (n * 10 + d)
long-more n zero is digit = record {
  amount = is.amount;
  zeros = is.zeros + 1;
  says = omega (arith, more-zero is.amount is.zeros n is.says);
  ends = is.ends;
  long = is.long;
}
long-more n (suc d) is digit =
    let most : is.amount ≤ n = omega (arith, times-tens is.amount is.zeros, is.says) in
    long-digit n (suc d) (omega (arith, is.long)) (λ none. absurd (omega arith)) digit

digit-below : (b : ℕ) → is_digit b ≡ true → b - 48 < 10
digit-below b is =
    let parts = and_parts (nat_le 48 b) (nat_le b 57) is in
    omega (arith, leb-true 48 b parts.0, leb-true b 57 parts.1)

pub long-rest : (n : ℕ) (digits : List ℕ) → list_all is_digit digits ≡ true → IsLong n → IsLong (fold with_next_digit n digits)
long-rest n [] are is = is
long-rest n (b ∷ digits) are is =
    let parts = and_parts (is_digit b) (list_all is_digit digits) are in
    long-rest (n * 10 + (b - 48)) digits parts.1 (long-more n (b - 48) is (digit-below b parts.0))

-- If the digits so far and one more are too long, all digits are.
pub long-part : (start : ℕ) (digits : List ℕ) (i n : ℕ) → i < length digits → list_all is_digit digits ≡ true
    → n ≡ fold with_next_digit start (take i digits) → IsLong (n * 10 + (get_or digits i 0 - 48))
    → IsLong (fold with_next_digit start digits)
long-part start digits i n h are e is =
    let next : with_next_digit n (get_or digits i 0) ≡ fold with_next_digit start (take (i + 1) digits) =
    ap (λ m. with_next_digit m (get_or digits i 0)) e ∙ sym (fold_more with_next_digit start digits i 0 h) in
    let parted = list_all-append is_digit (take (i + 1) digits) (drop (i + 1) digits) in
    let rest = and_parts _ _ (sym parted ∙ ap (list_all is_digit) (take-append-drop (i + 1) digits) ∙ are) in
    let joined : fold with_next_digit (fold with_next_digit start (take (i + 1) digits)) (drop (i + 1) digits) ≡ fold with_next_digit start digits =
    sym (fold-append with_next_digit start (take (i + 1) digits) (drop (i + 1) digits)) ∙ ap (fold with_next_digit start) (take-append-drop (i + 1) digits) in
    subst IsLong joined (long-rest _ (drop (i + 1) digits) rest.1 (subst IsLong next is))
