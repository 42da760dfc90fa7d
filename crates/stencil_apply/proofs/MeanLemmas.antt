-- Rows over controls that are moved.
use Rattle.std.proofs.Common.{◌≡◌, ℕ, suc, ◌+◌, ◌<◌, ℤ, pos, ◌+ℤ◌, ◌*ℤ◌, List, [], ◌∷◌, length, map, get_or, arith, refl, sym, ap, ◌∙◌}
use Rattle.std.specs.List.{All}
use Rattle.std.proofs.Math.IntN.{+ℤ_assoc, +ℤ_idl, +ℤ_idr, zero-*ℤ}
use Rattle.std.proofs.lemmas.Int.{ints}
use Rattle.std.proofs.lemmas.List.{get_or-map}
use Rattle.std.proofs.lemmas.List.Sums.{sum_by-cons}
use Rattle.number_laws.proofs.WholeNumberLemmas.{swap_middle, pos-distrib, pos-sum}
use Rattle.ratio128.specs.Numbers.{plus_times}
use Rattle.stencil_apply.specs.Table.{Share, Row, IsRow, total_of, sum_of_shares, sum_of_row}
use Rattle.stencil_apply.specs.Means.{moved}
use Rattle.stencil_apply.proofs.ArrayLemmas.{cons_both}
use Rattle.ratio128.proofs.AmountLemmas.{length-plus_times}

-- a claim about each item holds for the first, and for each after it
pub all-first : {X : Type 0} (P : X → Type 0) (x : X) (xs : List X) → All P (x ∷ xs) → P x
all-first P x xs all = all 0 x (omega arith)

pub all-rest : {X : Type 0} (P : X → Type 0) (x : X) (xs : List X) → All P (x ∷ xs) → All P xs
all-rest P x xs all k d h = all (suc k) d (omega arith)

one-moved : (a t x y : ℤ) (w : ℕ) → (x +ℤ a) +ℤ pos w *ℤ (y +ℤ t) ≡ (x +ℤ pos w *ℤ y) +ℤ (a +ℤ pos w *ℤ t)
one-moved a t x y w = ap (λ z. (x +ℤ a) +ℤ z) (pos-distrib w y t) ∙ swap_middle x a (pos w *ℤ y) (pos w *ℤ t)

-- sums and a control that are moved
plus-moved : (a t : ℤ) (w : ℕ) (xs ys : List ℤ) → length ys ≡ length xs → plus_times (pos w) (moved a xs) (moved t ys) ≡ moved (a +ℤ pos w *ℤ t) (plus_times (pos w) xs ys)
plus-moved a t w [] ys e = refl
plus-moved a t w (x ∷ xs) [] e = absurd (omega (arith, e))
plus-moved a t w (x ∷ xs) (y ∷ ys) e = cons_both (one-moved a t x y w) (plus-moved a t w xs ys (omega (arith, e)))

weights-moved : (a t : ℤ) (w rest : ℕ) → (a +ℤ pos w *ℤ t) +ℤ pos rest *ℤ t ≡ a +ℤ pos (w + rest) *ℤ t
weights-moved a t w rest = +ℤ_assoc a (pos w *ℤ t) (pos rest *ℤ t) ∙ ap (λ z. a +ℤ z) (pos-sum w rest t)

-- the sums of shares over moved controls
sum-moved : (shares : List Share) (controls : List (List ℤ)) (t a : ℤ) (start : List ℤ) → All (λ share. share.0 < length controls) shares → All (λ numbers. length numbers ≡ length start) controls → sum_of_shares (moved a start) (map (moved t) controls) shares ≡ moved (a +ℤ pos (total_of shares) *ℤ t) (sum_of_shares start controls shares)
sum-moved [] controls t a start inside same = ap (λ by. moved by start) (sym (ap (λ z. a +ℤ z) (zero-*ℤ t) ∙ +ℤ_idr a))
sum-moved (share ∷ shares) controls t a start inside same =
    let here : share.0 < length controls = all-first (λ (s : Share). s.0 < length controls) share shares inside in
    let long : length (get_or controls share.0 []) ≡ length start = same share.0 [] here in
    let first : plus_times (pos share.1) (moved a start) (get_or (map (moved t) controls) share.0 []) ≡ moved (a +ℤ pos share.1 *ℤ t) (plus_times (pos share.1) start (get_or controls share.0 [])) =
    ap (plus_times (pos share.1) (moved a start)) (get_or-map (moved t) controls share.0 [] [] here) ∙ plus-moved a t share.1 start (get_or controls share.0 []) long in
    ap (λ sum. sum_of_shares sum (map (moved t) controls) shares) first
    ∙ sum-moved shares controls t (a +ℤ pos share.1 *ℤ t) (plus_times (pos share.1) start (get_or controls share.0 []))
    (all-rest (λ (s : Share). s.0 < length controls) share shares inside)
    (λ k d h. same k d h ∙ sym (length-plus_times (pos share.1) start (get_or controls share.0 [])))
    ∙ ap (λ by. moved by (sum_of_shares (plus_times (pos share.1) start (get_or controls share.0 [])) controls shares))
    (weights-moved a t share.1 (total_of shares) ∙ ap (λ n. a +ℤ pos n *ℤ t) (sym (sum_by-cons (λ (s : Share). s.1) share shares)))

moved-none : (xs : List ℤ) → moved (pos 0) xs ≡ xs
moved-none [] = refl
moved-none (x ∷ xs) = cons_both (omega (arith, ints)) (moved-none xs)

-- a row over moved controls
pub row-moved : (row : Row) (controls : List (List ℤ)) (start : List ℤ) (t : ℤ) → IsRow (length controls) row → All (λ numbers. length numbers ≡ length start) controls → sum_of_row start (map (moved t) controls) row ≡ moved (pos row.den *ℤ t) (sum_of_row start controls row)
row-moved row controls start t is same =
    ap (λ s. sum_of_shares s (map (moved t) controls) row.shares) (sym (moved-none start))
    ∙ sum-moved row.shares controls t (pos 0) start is.inside same
    ∙ ap (λ by. moved by (sum_of_row start controls row)) (+ℤ_idl (pos (total_of row.shares) *ℤ t) ∙ ap (λ n. pos n *ℤ t) is.whole)
