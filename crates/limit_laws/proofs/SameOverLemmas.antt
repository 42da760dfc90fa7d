-- One number as a whole number over two denominators.
use Rattle.std.proofs.Common.{◌≡◌, ℕ, ◌*◌, ◌<◌, ℤ, pos, ◌+ℤ◌, ◌*ℤ◌, List, [], ◌∷◌, arith, ap, sym, ◌∙◌, subst}
use Rattle.std.specs.List.{AllByRecursion}
use Rattle.std.proofs.Math.IntN.{*ℤ-zero}
use Rattle.subdiv_model.specs.Mask.{SourcePoint, Term, mask_of}
use Rattle.subdiv_model.specs.Value.{Value, IsSameValue}
use Rattle.subdiv_model.specs.Refined.{mask_value}
use Rattle.number_laws.proofs.WholeNumberLemmas.{pos-distrib, pos-assoc, pos-swap, pos-cancel}
use Rattle.number_laws.proofs.MultipleLemmas.{product-positive}
use Rattle.mask_laws.proofs.SumLemmas.{sum_ℤ, weighted_sum, IsOver}
use Rattle.limit_laws.proofs.NumberLemmas.{same-number}
use Rattle.limit_laws.proofs.CommonOverLemmas.{over-times, over-both, mask-over}

-- a over c is b over d
abbrev pub IsSameOver : ℕ → ℕ → ℤ → ℤ → Type 0
IsSameOver c d a b = pos d *ℤ a ≡ pos c *ℤ b

module _ (c d : ℕ) where
  pub over-plus : (a b x y : ℤ) → IsSameOver c d a b → IsSameOver c d x y → IsSameOver c d (a +ℤ x) (b +ℤ y)
  over-plus a b x y h k =
      pos-distrib d a x ∙ ap (λ z. z +ℤ pos d *ℤ x) h ∙ ap (λ z. pos c *ℤ b +ℤ z) k ∙ sym (pos-distrib c b y)

  pub over-scaled : (q : ℕ) (a b : ℤ) → IsSameOver c d a b → IsSameOver c d (pos q *ℤ a) (pos q *ℤ b)
  over-scaled q a b h = pos-swap d q a ∙ ap (λ z. pos q *ℤ z) h ∙ pos-swap q c b

  pub over-cancel : (q : ℕ) (a b : ℤ) → 0 < q → IsSameOver c d (pos q *ℤ a) (pos q *ℤ b) → IsSameOver c d a b
  over-cancel q a b some h =
      pos-cancel q (pos d *ℤ a) (pos c *ℤ b) some (pos-swap q d a ∙ h ∙ pos-swap c q b)

  -- a value over c that is one over q d
  pub over-moved : (q : ℕ) (x : Value) (a b : ℤ) → 0 < x.den → IsOver c x a → IsOver (q * d) x b → IsSameOver c d (pos q *ℤ a) b
  over-moved q x a b positive h k =
      pos-swap d q a ∙ pos-assoc q d a ∙ over-both c (q * d) x a b positive h k

  pub over-sum : {X : Type 0} (f g : X → ℤ) (xs : List X) → AllByRecursion (λ x. IsSameOver c d (f x) (g x)) xs
      → IsSameOver c d (sum_ℤ f xs) (sum_ℤ g xs)
  over-sum f g [] h = *ℤ-zero (pos d) ∙ sym (*ℤ-zero (pos c))
  over-sum f g (x ∷ xs) h = over-plus (f x) (g x) (sum_ℤ f xs) (sum_ℤ g xs) h.0 (over-sum f g xs h.1)

  -- values that are one number over q c and over q d
  pub same-from_over : (q : ℕ) (x y : Value) (a b : ℤ) → 0 < q → 0 < c → 0 < d → IsOver (q * d) x b → IsOver (q * c) y a → IsSameOver c d a b
      → IsSameValue x y
  same-from_over q x y a b some left right over_x over_y same =
      let P : ℕ → Type 0 = λ k. IsOver k y (pos d *ℤ a) in
      same-number (c * (q * d)) x y (pos c *ℤ b) (product-positive c (q * d) left (product-positive q d some right))
      (over-times c (q * d) x b over_x)
      (subst P (reorder d q c) (over-times d (q * c) y a over_y) ∙ ap (λ z. pos y.den *ℤ z) same)
    where
      reorder : (x y z : ℕ) → x * (y * z) ≡ z * (y * x)
      reorder x y z = omega arith

-- a value over k that is the value of a mask over q, where the sources of the mask are whole over m
pub mask-same : (value : SourcePoint → Value) (k m q : ℕ) (f : SourcePoint → ℤ) (terms : List Term) (x : Value) (n : ℤ) → 0 < x.den → IsOver k x n
    → AllByRecursion (λ t. IsOver m (value t.source) (f t.source)) terms
    → x ≡ mask_value value (mask_of terms q) → IsSameOver k m (pos q *ℤ n) (weighted_sum f terms)
mask-same value k m q f terms x n positive over each is =
    let P : Value → Type 0 = λ y. IsOver (q * m) y (weighted_sum f terms) in
    over-moved k m q x n (weighted_sum f terms) positive over (subst P (sym is) (mask-over q m value f terms each))
