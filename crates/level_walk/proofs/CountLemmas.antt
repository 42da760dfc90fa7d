-- Counts of the numbers that pass a test, one number after another.
use Rattle.std.proofs.Common.{◌≡◌, ℕ, ◌+◌, ◌<◌, ◌≤◌, Bool, true, false, List, [], ◌∷◌, length, take, get_or, ◌++◌, arith, refl, ap, sym, ◌∙◌}
use Rattle.std.specs.Int.{from_bool}
use Rattle.std.specs.List.{count_by, range_with_len}
use Rattle.std.proofs.lemmas.List.FromFn.{length-range_with_len}
use Rattle.std.proofs.lemmas.List.Sums.{count_by-le-length, count_by_more_yes, count_by_more_no}
use Rattle.std.proofs.lemmas.List.{take_all, length-take}
use Rattle.number_laws.proofs.CountLemmas.{one_if, count-append, count-cons}
use Rattle.level_topology.proofs.ListPlaceLemmas.{push-range}

as-number : (b : Bool) → from_bool b ≡ one_if b
as-number true = refl
as-number false = refl

range-more : (n : ℕ) → range_with_len 0 (n + 1) ≡ range_with_len 0 n ++ n ∷ []
range-more n = sym (push-range [] (range_with_len 0 n) (range_with_len 0 n ++ n ∷ []) n refl refl)

-- the count so far, and 1 for the next number where it passes
pub count-next : (test : ℕ → Bool) (n count more : ℕ) (passes : Bool) → more ≡ from_bool passes → passes ≡ test n
    → count ≡ count_by test (range_with_len 0 n) → count + more ≡ count_by test (range_with_len 0 (n + 1))
count-next test n count more passes em ep ec =
    let both = ap (count_by test) (range-more n) ∙ count-append test (range_with_len 0 n) (n ∷ []) in
    let here = em ∙ ap from_bool ep ∙ as-number (test n) in
    omega (arith, both, here, ec, count-cons test n [])

-- no more pass than there are
pub count-most : (test : ℕ → Bool) (n count more : ℕ) (passes : Bool) → more ≡ from_bool passes → passes ≡ test n
    → count ≡ count_by test (range_with_len 0 n) → count + more ≤ n + 1
count-most test n count more passes em ep ec =
    omega (arith, count-next test n count more passes em ep ec, count_by-le-length test (range_with_len 0 (n + 1)), length-range_with_len 0 (n + 1))

-- one item more of a list, which passes or does not
pub list-next : {X : Type 0} (test : X → Bool) (xs : List X) (i : ℕ) (d : X) (count more : ℕ) (passes : Bool) → i < length xs → more ≡ from_bool passes → passes ≡ test (get_or xs i d)
    → count ≡ count_by test (take i xs) → count + more ≡ count_by test (take (i + 1) xs)
list-next test xs i d count more passes inside em ep ec = go passes em ep
  where
    go : (b : Bool) → more ≡ from_bool b → b ≡ test (get_or xs i d) → count + more ≡ count_by test (take (i + 1) xs)
    go true m e = omega (arith, m, ec, count_by_more_yes test xs i d inside (sym e))
    go false m e = omega (arith, m, ec, count_by_more_no test xs i d inside (sym e))

pub list-most : {X : Type 0} (test : X → Bool) (xs : List X) (i : ℕ) (d : X) (count more : ℕ) (passes : Bool) → i < length xs → more ≡ from_bool passes → passes ≡ test (get_or xs i d)
    → count ≡ count_by test (take i xs) → count + more ≤ i + 1
list-most test xs i d count more passes inside em ep ec =
    omega (arith, list-next test xs i d count more passes inside em ep ec, count_by-le-length test (take (i + 1) xs), length-take (i + 1) xs)

-- at the end all items are counted
pub list-all : {X : Type 0} (test : X → Bool) (xs : List X) (i count : ℕ) → length xs ≤ i → count ≡ count_by test (take i xs) → count ≡ count_by test xs
list-all test xs i count all ec = ec ∙ ap (count_by test) (take_all i xs all)
