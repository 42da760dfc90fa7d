-- The first element of a list and the rest of it, and the first number that passes a test.
use Rattle.std.proofs.Common.{◌≡◌, ℕ, zero, suc, ◌+◌, ◌-◌, ◌<◌, ◌≤◌, Bool, true, false, cond, List, [], ◌∷◌, ◌++◌, length, map, take, drop, get_or, Some, None, arith, ap, sym, ◌∙◌}
use Rattle.std.specs.Option.{option_or}
use Rattle.std.specs.List.{find, range_with_len}
use Rattle.std.proofs.lemmas.List.{take_all}
use Rattle.std.proofs.lemmas.List.Folds.{find-append}

-- a list as its first element and the rest of the slice
pub first-and-rest : {X Y : Type 0} (f : X → Y) (xs : List X) (x : X) → 1 ≤ length xs → x ≡ get_or xs 0 x
    → map f xs ≡ f x ∷ map f (take (length xs - 1) (drop 1 xs))
first-and-rest f [] x some is = absurd (omega arith)
first-and-rest f (y ∷ ys) x some is =
    ap (λ z. f z ∷ map f ys) (sym is) ∙ ap (λ zs. f x ∷ map f zs) (sym (take_all (length (y ∷ ys) - 1) ys (omega arith)))

range-split : (a m n : ℕ) → range_with_len a (m + n) ≡ range_with_len a m ++ range_with_len (a + m) n
range-split a zero n = ap (λ k. range_with_len a k) (omega arith) ∙ ap (λ k. range_with_len k n) (omega arith)
range-split a (suc m) n =
    ap (λ k. range_with_len a k) (let e : suc m + n ≡ suc (m + n) = omega arith in e)
    ∙ ap (λ xs. a ∷ xs) (range-split (a + 1) m n ∙ ap (λ k. range_with_len (a + 1) m ++ range_with_len k n) (omega arith))

-- a search among the numbers below n, step by step
pub find-more : (p : ℕ → Bool) (i : ℕ) → find p (range_with_len 0 i) ≡ None → p i ≡ false → find p (range_with_len 0 (i + 1)) ≡ None
find-more p i none fails =
    ap (find p) (range-split 0 i 1) ∙ find-append p (range_with_len 0 i) (range_with_len (0 + i) 1)
    ∙ ap (λ o. option_or o (find p (range_with_len (0 + i) 1))) none
    ∙ ap (λ k. find p (range_with_len k 1)) (let e : 0 + i ≡ i = omega arith in e)
    ∙ ap (λ b. cond b (Some i) None) fails

pub find-here : (p : ℕ → Bool) (i n : ℕ) → find p (range_with_len 0 i) ≡ None → p i ≡ true → i < n → Some i ≡ find p (range_with_len 0 n)
find-here p i n none passes within = sym whole
  where
    rest : ℕ
    rest = n - i - 1

    whole : find p (range_with_len 0 n) ≡ Some i
    whole =
        ap (λ k. find p (range_with_len 0 k)) (let e : n ≡ i + suc rest = omega arith in e)
        ∙ ap (find p) (range-split 0 i (suc rest)) ∙ find-append p (range_with_len 0 i) (range_with_len (0 + i) (suc rest))
        ∙ ap (λ o. option_or o (find p (range_with_len (0 + i) (suc rest)))) none
        ∙ ap (λ k. find p (range_with_len k (suc rest))) (let e : 0 + i ≡ i = omega arith in e)
        ∙ ap (λ b. cond b (Some i) (find p (range_with_len (i + 1) rest))) passes
