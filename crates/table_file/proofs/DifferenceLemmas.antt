-- The end of the shorter of two lists of rows.
use Rattle.std.proofs.Common.{◌≡◌, ◌≢◌, ℕ, ◌<◌, min, List, [], ◌∷◌, length, drop, Some, arith, refl, length-drop, ⊎_elim}
use Rattle.std.proofs.lemmas.Bool.{cases_lt}
use Rattle.stencil_apply.specs.Table.{Row}
use Rattle.far_model.specs.Stored.{row_difference}

first-ends : (n : ℕ) (xs ys : List Row) → length xs ≡ 0 → 0 < length ys → row_difference n xs ys ≡ Some n
first-ends n [] [] e f = absurd (omega arith)
first-ends n [] (y ∷ ys) e f = refl
first-ends n (x ∷ xs) ys e f = absurd (omega arith)

second-ends : (n : ℕ) (xs ys : List Row) → 0 < length xs → length ys ≡ 0 → row_difference n xs ys ≡ Some n
second-ends n [] ys e f = absurd (omega arith)
second-ends n (x ∷ xs) [] e f = refl
second-ends n (x ∷ xs) (y ∷ ys) e f = absurd (omega arith)

-- the first row that one of the lists lacks
pub difference-some : (xs ys : List Row) (n : ℕ) → length xs ≢ length ys → n ≡ min (length xs) (length ys) → row_difference n (drop n xs) (drop n ys) ≡ Some n
difference-some xs ys n other at =
    ⊎_elim (λ h. first-ends n (drop n xs) (drop n ys) (omega (arith, length-drop n xs)) (omega (arith, length-drop n ys)))
    (λ h. second-ends n (drop n xs) (drop n ys) (omega (arith, length-drop n xs)) (omega (arith, length-drop n ys)))
    (cases_lt (length xs) (length ys))
