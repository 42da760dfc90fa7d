-- What a union of supports lists.
use Rattle.std.proofs.Common.{◌≡◌, ℕ, zero, suc, ◌+◌, ◌<◌, ◌≤◌, Bool, true, false, not, ◌&&◌, nat_eq, nat_le, nat_lt, List, ◌∷◌, arith, refl, ap, sym, ◌∙◌}
use Rattle.std.specs.List.{All, AllByRecursion, filter, list_any, range_with_len}
use Rattle.std.specs.List.Sorted.{IsStrictlyIncreasing}
use Rattle.std.proofs.lemmas.Bool.{and_parts, ltb-true, and_from, and_right, cond_both, eqb-true}
use Rattle.std.proofs.lemmas.Bool.Decides.{nat_tests}
use Rattle.std.proofs.lemmas.Map.Views.{any-filter_same}
use Rattle.std.proofs.lemmas.List.Elements.{All-filter, All-from_recursion}
use Rattle.std.proofs.lemmas.List.FromFn.{get_or-range_with_len, length-range_with_len}
use Rattle.std.proofs.lemmas.List.Kept.{IsStrictlyIncreasing-filter}
use Rattle.subdiv_model.specs.Polygons.{is_among, is_distinct}
use Rattle.subdiv_model.specs.Support.{union_of}

among-range : (v a n : ℕ) → is_among (range_with_len a n) v ≡ (nat_le a v && nat_lt v (a + n))
among-range v a zero = grind (arith, nat_tests)
among-range v a (suc n) = grind (arith, nat_tests, among-range v (a + 1) n)

pub among-kept : (p : ℕ → Bool) (xs : List ℕ) (v : ℕ) → is_among (filter p xs) v ≡ (p v && is_among xs v)
among-kept p xs v = any-filter_same (nat_eq v) p (p v) (λ w h. ap p (sym (eqb-true v w h))) xs

-- a union lists the numbers that are in one of the lists
pub among-union : (n : ℕ) (lists : List (List ℕ)) (v : ℕ) → v < n → is_among (union_of n lists) v ≡ list_any (λ list. is_among list v) lists
among-union n lists v h =
    let in_one = list_any (λ list. is_among list v) lists in
    among-kept (λ w. list_any (λ list. is_among list w) lists) (range_with_len 0 n) v ∙ ap (λ b. in_one && b) (among-range v 0 n) ∙ grind (arith, nat_tests)

-- a union lists only numbers below n
pub union-below : (n : ℕ) (lists : List (List ℕ)) (v : ℕ) → is_among (union_of n lists) v ≡ true → v < n
union-below n lists v h =
    let in_one = list_any (λ list. is_among list v) lists in
    let both = and_parts in_one (nat_le 0 v && nat_lt v (0 + n)) (sym (among-kept (λ w. list_any (λ list. is_among list w) lists) (range_with_len 0 n) v ∙ ap (λ b. in_one && b) (among-range v 0 n)) ∙ h) in
    let below : v < 0 + n = ltb-true v (0 + n) (and_parts (nat_le 0 v) (nat_lt v (0 + n)) both.1).1 in
    omega arith

pub ascending-kept : (p : ℕ → Bool) (a n : ℕ) → IsStrictlyIncreasing (filter p (range_with_len a n))
ascending-kept p a n = IsStrictlyIncreasing-filter p (range_with_len a n) ascending
  where
    ascending : IsStrictlyIncreasing (range_with_len a n)
    ascending k h =
        let below : k + 1 < n = omega (arith, length-range_with_len a n, h) in
        omega (arith, get_or-range_with_len a n k 0 (omega arith), get_or-range_with_len a n (k + 1) 0 below)

below-range : (a n m : ℕ) → a + n ≤ m → AllByRecursion (λ v. v < m) (range_with_len a n)
below-range a zero m h = tt
below-range a (suc n) m h = (omega arith, below-range (a + 1) n m (omega arith))

pub below-kept : (p : ℕ → Bool) (n : ℕ) → All (λ v. v < n) (filter p (range_with_len 0 n))
below-kept p n = All-filter p (λ v. v < n) (range_with_len 0 n) (All-from_recursion (λ v. v < n) (range_with_len 0 n) (below-range 0 n n (omega arith)))

pub distinct-kept : (p : ℕ → Bool) (a n : ℕ) → is_distinct (filter p (range_with_len a n)) ≡ true
distinct-kept p a zero = refl
distinct-kept p a (suc n) =
    let rest = filter p (range_with_len (a + 1) n) in
    let below : is_among (range_with_len (a + 1) n) a ≡ false = among-range a (a + 1) n ∙ grind (arith, nat_tests) in
    let gone : is_among rest a ≡ false = among-kept p (range_with_len (a + 1) n) a ∙ and_right _ _ below in
    let distinct = distinct-kept p (a + 1) n in
    cond_both (p a) (a ∷ rest) rest (λ vs. is_distinct vs ≡ true) (λ _. and_from _ _ (ap not gone) distinct) (λ _. distinct)
