-- Sums over control points.
use Rattle.std.proofs.Common.{◌≡◌, ℕ, zero, suc, ◌+◌, ◌*◌, ◌<◌, ◌≤◌, ℤ, pos, ◌+ℤ◌, ◌*ℤ◌, List, [], ◌∷◌, get_or, arith, refl, ap, sym, ◌∙◌, inl, inr}
use Rattle.std.specs.List.{range_with_len}
use Rattle.std.proofs.lemmas.Bool.{cases_eq}
use Rattle.std.proofs.Math.IntN.{zero-*ℤ, *ℤ-zero, +ℤ_idl, +ℤ_idr}
use Rattle.number_laws.proofs.WholeNumberLemmas.{pos-sum, pos-distrib, pos-assoc, swap_middle}
use Rattle.stencil_laws.specs.Rows.{sum_over, sum_of_shares}

pub over-same : (f g : ℕ → ℤ) (a n : ℕ) → ((v : ℕ) → a ≤ v → v < a + n → f v ≡ g v) → sum_over f (range_with_len a n) ≡ sum_over g (range_with_len a n)
over-same f g a zero h = refl
over-same f g a (suc n) h =
    ap (λ z. z +ℤ sum_over f (range_with_len (a + 1) n)) (h a (omega arith) (omega arith))
    ∙ ap (λ z. g a +ℤ z) (over-same f g (a + 1) n (λ v low high. h v (omega arith) (omega arith)))

pub over-none : (f : ℕ → ℤ) (points : List ℕ) → ((v : ℕ) → f v ≡ pos 0) → sum_over f points ≡ pos 0
over-none f [] h = refl
over-none f (v ∷ points) h = ap (λ z. z +ℤ sum_over f points) (h v) ∙ +ℤ_idl (sum_over f points) ∙ over-none f points h

over-zero : (f : ℕ → ℤ) (a n : ℕ) → ((v : ℕ) → a ≤ v → f v ≡ pos 0) → sum_over f (range_with_len a n) ≡ pos 0
over-zero f a zero h = refl
over-zero f a (suc n) h =
    ap (λ z. z +ℤ sum_over f (range_with_len (a + 1) n)) (h a (omega arith)) ∙ +ℤ_idl (sum_over f (range_with_len (a + 1) n)) ∙ over-zero f (a + 1) n (λ v low. h v (omega arith))

-- all but one are 0
pub over-one : (f : ℕ → ℤ) (a n p : ℕ) → a ≤ p → p < a + n → ((v : ℕ) → (v ≡ p → ⊥) → f v ≡ pos 0) → sum_over f (range_with_len a n) ≡ f p
over-one f a zero p low high h = absurd (omega arith)
over-one f a (suc n) p low high h =
    elim (cases_eq a p) [
      | inl same ↦
          ap (λ z. f a +ℤ z) (over-zero f (a + 1) n (λ v above. h v (λ e. omega arith))) ∙ +ℤ_idr (f a) ∙ ap f same
      | inr other ↦
          ap (λ z. z +ℤ sum_over f (range_with_len (a + 1) n)) (h a other) ∙ +ℤ_idl (sum_over f (range_with_len (a + 1) n)) ∙ over-one f (a + 1) n p (omega (arith, other)) (omega arith) h
    ]

module _ (controls : List ℤ) where
  pub shares-same : (f g : ℕ → ℕ) (points : List ℕ) → ((v : ℕ) → f v ≡ g v) → sum_of_shares f controls points ≡ sum_of_shares g controls points
  shares-same f g [] h = refl
  shares-same f g (v ∷ points) h =
      ap (λ n. pos n *ℤ get_or controls v (pos 0) +ℤ sum_of_shares f controls points) (h v) ∙ ap (λ z. pos (g v) *ℤ get_or controls v (pos 0) +ℤ z) (shares-same f g points h)

  pub shares-none : (points : List ℕ) → sum_of_shares (λ v. 0) controls points ≡ pos 0
  shares-none points = over-none (λ v. pos 0 *ℤ get_or controls v (pos 0)) points (λ v. zero-*ℤ (get_or controls v (pos 0)))

  pub shares-plus : (f g : ℕ → ℕ) (points : List ℕ) → sum_of_shares (λ v. f v + g v) controls points ≡ sum_of_shares f controls points +ℤ sum_of_shares g controls points
  shares-plus f g [] = refl
  shares-plus f g (v ∷ points) =
      let c = get_or controls v (pos 0) in
      ap (λ z. z +ℤ sum_of_shares (λ w. f w + g w) controls points) (sym (pos-sum (f v) (g v) c))
      ∙ ap (λ z. (pos (f v) *ℤ c +ℤ pos (g v) *ℤ c) +ℤ z) (shares-plus f g points)
      ∙ swap_middle (pos (f v) *ℤ c) (pos (g v) *ℤ c) (sum_of_shares f controls points) (sum_of_shares g controls points)

  pub shares-times : (a : ℕ) (f : ℕ → ℕ) (points : List ℕ) → sum_of_shares (λ v. a * f v) controls points ≡ pos a *ℤ sum_of_shares f controls points
  shares-times a f [] = sym (*ℤ-zero (pos a))
  shares-times a f (v ∷ points) =
      let c = get_or controls v (pos 0) in
      ap (λ z. z +ℤ sum_of_shares (λ w. a * f w) controls points) (sym (pos-assoc a (f v) c))
      ∙ ap (λ z. pos a *ℤ (pos (f v) *ℤ c) +ℤ z) (shares-times a f points)
      ∙ sym (pos-distrib a (pos (f v) *ℤ c) (sum_of_shares f controls points))
