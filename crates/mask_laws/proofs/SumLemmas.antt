-- The value of a sum of weighted terms is a whole number over a common denominator.
use Rattle.std.proofs.Common.{◌≡◌, ℕ, ◌*◌, ◌/◌, ℤ, pos, ◌+ℤ◌, ◌*ℤ◌, List, [], ◌∷◌, arith, ap, sym, ◌∙◌}
use Rattle.std.specs.List.{AllByRecursion}
use Rattle.std.specs.Int.{◌∣◌}
use Rattle.std.proofs.Math.IntN.{*ℤ_comm, *ℤ-zero}
use Rattle.std.proofs.Math.Nat.{div-mul_cancel}
use Rattle.subdiv_model.specs.Mask.{SourcePoint, Term}
use Rattle.subdiv_model.specs.Value.{Value, plus_value, weighted}
use Rattle.number_laws.proofs.WholeNumberLemmas.{pos-distrib, pos-assoc, pos-swap}
use Rattle.mask_laws.specs.Laws.{value_of_terms}

-- the sum of a whole number for each
abbrev pub sum_ℤ : {X : Type 0} → (X → ℤ) → List X → ℤ
sum_ℤ f [] = pos 0
sum_ℤ f (x ∷ xs) = f x +ℤ sum_ℤ f xs

-- the weighted sum over terms of a whole number for each source
abbrev pub weighted_sum : (SourcePoint → ℤ) → List Term → ℤ
weighted_sum f terms = sum_ℤ (λ t. pos t.weight *ℤ f t.source) terms

-- over c the value is the whole number n
abbrev pub IsOver : ℕ → Value → ℤ → Type 0
IsOver c x n = pos c *ℤ x.num ≡ pos x.den *ℤ n

-- whole over a divisor is whole over a multiple
pub over-multiple : (c m : ℕ) (x : Value) (n : ℤ) → c ∣ m → IsOver c x n → IsOver m x (pos (m / c) *ℤ n)
over-multiple c m x n d h =
    ap (λ k. pos k *ℤ x.num) (sym (div-mul_cancel c d))
    ∙ sym (pos-assoc (m / c) c x.num)
    ∙ ap (λ z. pos (m / c) *ℤ z) h
    ∙ pos-swap (m / c) x.den n

-- one weighted term before a sum
term-over : (q m w b d : ℕ) (a n : ℤ) → pos m *ℤ a ≡ pos b *ℤ n → pos (q * m) *ℤ (pos d *ℤ (pos w *ℤ a)) ≡ pos (q * b * d) *ℤ (pos w *ℤ n)
term-over q m w b d a n e =
    sym (pos-assoc q m (pos d *ℤ (pos w *ℤ a)))
    ∙ ap (λ z. pos q *ℤ z) (pos-swap m d (pos w *ℤ a) ∙ ap (λ z. pos d *ℤ z) (pos-swap m w a ∙ ap (λ z. pos w *ℤ z) e ∙ pos-swap w b n))
    ∙ pos-assoc q d (pos b *ℤ (pos w *ℤ n))
    ∙ pos-assoc (q * d) b (pos w *ℤ n)
    ∙ ap (λ k. pos k *ℤ (pos w *ℤ n)) (reorder q d b)
  where
    reorder : (x y z : ℕ) → x * y * z ≡ x * z * y
    reorder x y z = omega arith

rest-over : (c b d : ℕ) (r k : ℤ) → pos c *ℤ r ≡ pos d *ℤ k → pos c *ℤ (pos b *ℤ r) ≡ pos (b * d) *ℤ k
rest-over c b d r k e = pos-swap c b r ∙ ap (λ z. pos b *ℤ z) e ∙ pos-assoc b d k

plus-over : (q m w : ℕ) (x r : Value) (n k : ℤ) → IsOver m x n → IsOver (q * m) r k
    → IsOver (q * m) (plus_value (weighted w q x) r) (pos w *ℤ n +ℤ k)
plus-over q m w x r n k h e =
    ap (λ z. pos (q * m) *ℤ z)
    (ap (λ z. z +ℤ r.num *ℤ pos (q * x.den)) (*ℤ_comm (pos w *ℤ x.num) (pos r.den))
    ∙ ap (λ z. pos r.den *ℤ (pos w *ℤ x.num) +ℤ z) (*ℤ_comm r.num (pos (q * x.den))))
    ∙ pos-distrib (q * m) (pos r.den *ℤ (pos w *ℤ x.num)) (pos (q * x.den) *ℤ r.num)
    ∙ ap (λ z. z +ℤ pos (q * m) *ℤ (pos (q * x.den) *ℤ r.num)) (term-over q m w x.den r.den x.num n h)
    ∙ ap (λ z. pos (q * x.den * r.den) *ℤ (pos w *ℤ n) +ℤ z) (rest-over (q * m) (q * x.den) r.den r.num k e)
    ∙ sym (pos-distrib (q * x.den * r.den) (pos w *ℤ n) k)

-- where each source is a whole number over m, the terms over q are their weighted sum over q m
pub terms-over : (q m : ℕ) (value : SourcePoint → Value) (f : SourcePoint → ℤ) (terms : List Term)
    → AllByRecursion (λ t. IsOver m (value t.source) (f t.source)) terms
    → IsOver (q * m) (value_of_terms value terms q) (weighted_sum f terms)
terms-over q m value f [] h = *ℤ-zero (pos (q * m)) ∙ sym (*ℤ-zero (pos 1))
terms-over q m value f (t ∷ terms) h =
    plus-over q m t.weight
    (value t.source) (value_of_terms value terms q) (f t.source) (weighted_sum f terms) h.0 (terms-over q m value f terms h.1)
