-- The least common multiple of a list, one number after another, each 0 where it passes the bound.
use Rattle.std.proofs.Common.{◌≡◌, ℕ, zero, suc, ◌+◌, ◌<◌, ◌≤◌, List, [], ◌∷◌, length, take, get_or, lit<, ap, sym, ◌∙◌}
use Rattle.std.specs.List.{AllByRecursion, fold}
use Rattle.std.specs.Int.{◌∣◌}
use Rattle.std.proofs.lemmas.List.{take_all}
use Rattle.std.proofs.lemmas.List.Sums.{fold_more}
use Rattle.std.proofs.lemmas.List.Elements.{All-from_recursion}
use Rattle.std.proofs.lemmas.Nat.Gcd.{dvd_antisymm}
use Rattle.std.proofs.Math.Nat.{one-dvd}
use Rattle.subdiv_model.specs.Multiples.{lcm_of, lcm_of_all}
use Rattle.number_laws.proofs.MultipleLemmas.{all-divide_lcm, least-of-all, fold-lcm-positive, fold-lcm-divided, fold-lcm-least}
use Rattle.child_masks.specs.Survey.{within_bound}

-- all numbers are above 0
abbrev pub ArePositive : List ℕ → Type 0
ArePositive numbers = AllByRecursion (λ a. 0 < a) numbers

-- the first of some numbers above 0 are above 0
positive-take : (numbers : List ℕ) (i : ℕ) → ArePositive numbers → ArePositive (take i numbers)
positive-take [] zero h = tt
positive-take [] (suc i) h = tt
positive-take (a ∷ numbers) zero h = tt
positive-take (a ∷ numbers) (suc i) h = (h.0, positive-take numbers i h.1)

-- in either order it is the same
fold-is-lcm : (numbers : List ℕ) → ArePositive numbers → fold lcm_of 1 numbers ≡ lcm_of_all numbers
fold-is-lcm numbers positive =
    let last = fold lcm_of 1 numbers in
    dvd_antisymm (fold-lcm-least 1 numbers (lcm_of_all numbers) positive (one-dvd (lcm_of_all numbers)) (all-divide_lcm numbers))
    (least-of-all numbers last (All-from_recursion (λ a. 0 < a) numbers positive) (All-from_recursion (λ a. a ∣ last) numbers (fold-lcm-divided 1 numbers)))

-- one number more
pub joined-more : (numbers : List ℕ) (i m c r : ℕ) → ArePositive numbers → i < length numbers → m ≡ within_bound (fold lcm_of 1 (take i numbers))
    → c ≡ within_bound (get_or numbers i 1) → ((a b : ℕ) → 0 < a → 0 < b → m ≡ within_bound a → c ≡ within_bound b → r ≡ within_bound (lcm_of a b))
    → r ≡ within_bound (fold lcm_of 1 (take (i + 1) numbers))
joined-more numbers i m c r positive inside h k joined =
    joined (fold lcm_of 1 (take i numbers)) (get_or numbers i 1)
    (fold-lcm-positive 1 (take i numbers) (lit< tt) (positive-take numbers i positive))
    (recursion-at numbers i positive inside) h k
    ∙ ap within_bound (sym (fold_more lcm_of 1 numbers i 1 inside))
  where
    recursion-at : (xs : List ℕ) (i : ℕ) → ArePositive xs → i < length xs → 0 < get_or xs i 1
    recursion-at xs i all below = All-from_recursion (λ a. 0 < a) xs all i 1 below

-- all numbers are joined
pub joined-all : (numbers : List ℕ) (i m : ℕ) → ArePositive numbers → length numbers ≤ i → m ≡ within_bound (fold lcm_of 1 (take i numbers))
    → m ≡ within_bound (lcm_of_all numbers)
joined-all numbers i m positive past h =
    h ∙ ap (λ xs. within_bound (fold lcm_of 1 xs)) (take_all i numbers past) ∙ ap within_bound (fold-is-lcm numbers positive)
