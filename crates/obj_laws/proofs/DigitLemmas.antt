-- Numbers by their count of digits.
use Rattle.std.proofs.Common.{◌≡◌, ℕ, suc, ◌+◌, ◌-◌, ◌*◌, ◌^◌, ◌<◌, ◌≤◌, true, List, [], ◌∷◌, length, arith, ap, sym, ◌∙◌, add-one}
use Rattle.std.specs.List.{fold, list_all}
use Rattle.std.proofs.lemmas.Bool.{and_parts, leb-true}
use Rattle.std.proofs.lemmas.Grind.{pow_more}
use Rattle.std.proofs.Math.Nat.{mul-le-mul_right}
use Rattle.subdiv_model.specs.Digits.{is_digit}

digit-most : (b : ℕ) → is_digit b ≡ true → b ≤ 57
digit-most b h = leb-true _ _ (and_parts _ _ h).1

-- a number of n digits is below 10 ^ n
pub digits-below : (a : ℕ) (digits : List ℕ) → list_all is_digit digits ≡ true
    → fold (λ n b. n * 10 + (b - 48)) a digits < (a + 1) * 10 ^ length digits
digits-below a [] h = omega arith
digits-below a (b ∷ digits) h =
    let parts : (is_digit b ≡ true) × (list_all is_digit digits ≡ true) = and_parts _ _ h in
    let most : b ≤ 57 = digit-most b parts.0 in
    let next : a * 10 + (b - 48) + 1 ≤ (a + 1) * 10 = omega arith in
    let bound : (a * 10 + (b - 48) + 1) * 10 ^ length digits ≤ (a + 1) * 10 * 10 ^ length digits = mul-le-mul_right (10 ^ length digits) next in
    let power : 10 ^ suc (length digits) ≡ 10 ^ length digits * 10 = ap (λ n. 10 ^ n) (sym (add-one (length digits))) ∙ pow_more 10 (length digits) in
    let whole : (a + 1) * 10 ^ suc (length digits) ≡ (a + 1) * 10 * 10 ^ length digits = ap (λ n. (a + 1) * n) power ∙ regroup (a + 1) (10 ^ length digits) in
    rw whole (omega (arith, digits-below (a * 10 + (b - 48)) digits parts.1))
  where
    regroup : (x y : ℕ) → x * (y * 10) ≡ x * 10 * y
    regroup x y = omega arith
