-- A search in ascending numbers.
use Rattle.std.proofs.Common.{◌≡◌, ℕ, ◌<◌, ◌≤◌, Bool, true, false, nat_eq, nat_lt, List, length, get_or, arith, refl, ap, sym, ◌∙◌, ◌⊎◌, inl, inr, Result, Ok, Err}
use Rattle.std.specs.List.Sorted.{IsBinarySearchResult, IsStrictlyIncreasing}
use Rattle.std.specs.Ordering.{nat_cmp}
use Rattle.std.specs.Result.{MatchResult, is_ok}
use Rattle.std.proofs.lemmas.Bool.{cases_lt}
use Rattle.std.proofs.lemmas.Bool.Decides.{nat_tests}
use Rattle.std.proofs.lemmas.Grind.{get_or_default_zero}
use Rattle.std.proofs.lemmas.List.Folds.{list_any_none}
use Rattle.std.proofs.lemmas.List.Kept.{AllPairs-from_increasing}
use Rattle.std.proofs.lemmas.List.Sorted.{searched}
use Rattle.subdiv_model.specs.Polygons.{is_among}
use Rattle.mesh_laws.proofs.SideLemmas.{among-place}

-- numbers that ascend do so between any two places
rise-at : (xs : List ℕ) → IsStrictlyIncreasing xs → (i j : ℕ) → i ≤ j → j < length xs → get_or xs i 0 ≤ get_or xs j 0
rise-at xs up i j h k = go (cases_lt i j)
  where
    go : (i < j) ⊎ (j ≤ i) → get_or xs i 0 ≤ get_or xs j 0
    go (inl less) = let at : get_or xs i 0 < get_or xs j 0 = AllPairs-from_increasing xs up i j 0 less k in omega arith
    go (inr more) = let e : i ≡ j = omega (arith, h, more) in let same : get_or xs i 0 ≡ get_or xs j 0 = ap (λ n. get_or xs n 0) e in omega (arith, same)

-- a search finds a number exactly if it is in the list
pub search-known : (xs : List ℕ) (x : ℕ) (r : Result ℕ ℕ) (b : Bool) → IsBinarySearchResult (λ y. nat_cmp y x) xs r → IsStrictlyIncreasing xs → b ≡ is_ok r → b ≡ is_among xs x
search-known xs x r b found up is = is ∙ go r (searched xs x r found (rise-at xs up))
  where
    go : (r : Result ℕ ℕ) → MatchResult r (λ i. (i < length xs) × (get_or xs i 0 ≡ x)) (λ i. (i ≤ length xs) × ((k : ℕ) → k < i → get_or xs k 0 < x) × ((k : ℕ) → i ≤ k → k < length xs → x < get_or xs k 0)) → is_ok r ≡ is_among xs x
    go (Ok i) h = sym (among-place x xs i h.0 h.1)
    go (Err i) h = sym (list_any_none (nat_eq x) xs (λ k d inside. ap (nat_eq x) (get_or_default_zero xs k d inside) ∙ other k (nat_lt k i) refl inside))
      where
        apart : (y : ℕ) → y < x → nat_eq x y ≡ false
        apart y e = grind (arith, nat_tests)

        beyond : (y : ℕ) → x < y → nat_eq x y ≡ false
        beyond y e = grind (arith, nat_tests)

        other : (k : ℕ) (c : Bool) → nat_lt k i ≡ c → k < length xs → nat_eq x (get_or xs k 0) ≡ false
        other k true e inside = apart (get_or xs k 0) (h.1 k (grind (arith, nat_tests)))
        other k false e inside = beyond (get_or xs k 0) (h.2 k (grind (arith, nat_tests)) inside)
