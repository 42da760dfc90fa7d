-- Values as whole numbers over one denominator, and the masks of points that stay, of middles and of creases on a line.
use Rattle.std.proofs.Common.{◌≡◌, ℕ, ◌*◌, ◌<◌, ℤ, pos, ◌+ℤ◌, ◌*ℤ◌, List, [], ◌∷◌, arith, ap, sym, ◌∙◌}
use Rattle.std.specs.List.{AllByRecursion}
use Rattle.std.proofs.Math.IntN.{*ℤ_comm, +ℤ_idr}
use Rattle.subdiv_model.specs.Mask.{SourcePoint, OfPoint, OfFace, Term, mask_of, weigh, weigh_points, corner_mask, sharp_edge_mask, crease_mask}
use Rattle.subdiv_model.specs.Value.{Value, IsSameValue}
use Rattle.subdiv_model.specs.Refined.{mask_value}
use Rattle.number_laws.proofs.WholeNumberLemmas.{pos-sum, pos-assoc, pos-swap, pos-cancel, times-one}
use Rattle.number_laws.proofs.MultipleLemmas.{product-positive}
use Rattle.mask_laws.specs.Laws.{value_of_terms}
use Rattle.mask_laws.proofs.SumLemmas.{weighted_sum, IsOver, terms-over}
use Rattle.mask_laws.proofs.JoinedLemmas.{joined-all, joined-sum}
use Rattle.limit_laws.proofs.CommonOverLemmas.{over-times}

-- Over a multiple the number is as many times as great.

-- the common factor can be removed again
over-less : (k c : ℕ) (x : Value) (n : ℤ) → 0 < k → IsOver (k * c) x (pos k *ℤ n) → IsOver c x n
over-less k c x n some h =
    pos-cancel k (pos c *ℤ x.num) (pos x.den *ℤ n) some (pos-assoc k c x.num ∙ h ∙ pos-swap x.den k n)

-- two values that are one number over a denominator above 0 are the same
pub same-number : (c : ℕ) (x y : Value) (n : ℤ) → 0 < c → IsOver c x n → IsOver c y n → IsSameValue x y
same-number c x y n positive h k =
    pos-cancel c (x.num *ℤ pos y.den) (y.num *ℤ pos x.den) positive
    (ap (λ z. pos c *ℤ z) (*ℤ_comm x.num (pos y.den)) ∙ pos-swap c y.den x.num ∙ ap (λ z. pos y.den *ℤ z) h ∙ pos-swap y.den x.den n
    ∙ ap (λ z. pos x.den *ℤ z) (sym k) ∙ pos-swap x.den c y.num ∙ ap (λ z. pos c *ℤ z) (*ℤ_comm (pos x.den) y.num))

-- one times a number is the number
pub one-times : (x : ℤ) → pos 1 *ℤ x ≡ x
one-times x = *ℤ_comm (pos 1) x ∙ times-one x

-- the value is the number n over m, in whatever terms, and its own denominator is above 0
pub record IsNumber (m : ℕ) (n : ℤ) (x : Value) : Type 0 where
  pub over : IsOver m x n
  pub proper : 0 < x.den

-- Masks, where each source is a whole number over m.

-- the number of a point, for a source
abbrev pub of_points : (ℕ → ℤ) → SourcePoint → ℤ
of_points number (OfPoint v) = number v
of_points number (OfFace f) = pos 0

module _ (m : ℕ) (value : SourcePoint → Value) (number : ℕ → ℤ) where
  -- the point has its number over m
  abbrev HasNumber : ℕ → Type 0
  HasNumber v = IsNumber m (number v) (value (OfPoint v))

  -- each source of the terms has its number
  abbrev HaveNumbers : List Term → Type 0
  HaveNumbers terms = AllByRecursion (λ t. IsOver m (value t.source) (of_points number t.source)) terms

  -- each source of the terms has a denominator above 0
  abbrev AreProper : List Term → Type 0
  AreProper terms = AllByRecursion (λ t. 0 < (value t.source).den) terms

  -- the value of a mask is the weighted sum of the numbers of its sources
  mask-over : (terms : List Term) (q : ℕ) → HaveNumbers terms
      → IsOver (q * m) (mask_value value (mask_of terms q)) (weighted_sum (of_points number) terms)
  mask-over terms q each =
      terms-over q m value (of_points number) (mask_of terms q).terms (joined-all (λ s. IsOver m (value s) (of_points number s)) terms q each)
      ∙ ap (λ z. pos (mask_value value (mask_of terms q)).den *ℤ z) (joined-sum (of_points number) terms q)

  -- a sum of terms has a denominator above 0
  terms-proper : (terms : List Term) (q : ℕ) → 0 < q → AreProper terms → 0 < (value_of_terms value terms q).den
  terms-proper [] q some each = omega arith
  terms-proper (t ∷ terms) q some each =
      product-positive (q * (value t.source).den) (value_of_terms value terms q).den
      (product-positive q (value t.source).den some each.0) (terms-proper terms q some each.1)

  -- the denominator of a mask's value is above 0 if those of its sources are
  mask-proper : (terms : List Term) (q : ℕ) → 0 < q → AreProper terms → 0 < (mask_value value (mask_of terms q)).den
  mask-proper terms q some each = terms-proper (mask_of terms q).terms q some (joined-all (λ s. 0 < (value s).den) terms q each)

  -- a point that stays
  pub corner-number : (v : ℕ) → HasNumber v → IsNumber (2 * m) (pos 2 *ℤ number v) (mask_value value (corner_mask v))
  corner-number v h =
      let x = mask_value value (corner_mask v) in
      let terms : List Term = weigh 1 (OfPoint v) ∷ [] in
      let once : 1 * m ≡ m = omega arith in
      let sum : pos 1 *ℤ number v +ℤ pos 0 ≡ number v = +ℤ_idr (pos 1 *ℤ number v) ∙ one-times (number v) in
      record {
        over = over-times 2 m x (number v) (ap (λ c. pos c *ℤ x.num) (sym once) ∙ mask-over terms 1 (h.over, tt) ∙ ap (λ z. pos x.den *ℤ z) sum);
        proper = mask-proper terms 1 (omega arith) (h.proper, tt);
      }

  -- the sum of the numbers of two points, each times one
  ends-sum : (a b : ℕ) → pos 1 *ℤ number a +ℤ (pos 1 *ℤ number b +ℤ pos 0) ≡ number a +ℤ number b
  ends-sum a b =
      ap (λ z. pos 1 *ℤ number a +ℤ z) (+ℤ_idr (pos 1 *ℤ number b) ∙ one-times (number b)) ∙ ap (λ z. z +ℤ number b) (one-times (number a))

  -- the middle of two points
  pub middle-number : (e : ℕ × ℕ) → HasNumber e.0 → HasNumber e.1
      → IsNumber (2 * m) (number e.0 +ℤ number e.1) (mask_value value (sharp_edge_mask e))
  middle-number e h k =
      let terms = weigh_points 1 (e.0 ∷ e.1 ∷ []) in
      record {
        over =
            mask-over terms 2 (h.over, (k.over, tt)) ∙ ap (λ z. pos (mask_value value (sharp_edge_mask e)).den *ℤ z) (ends-sum e.0 e.1);
        proper = mask-proper terms 2 (omega arith) (h.proper, (k.proper, tt));
      }

  -- a crease that is the middle of its neighbours stays where it is
  pub crease-number : (p a b : ℕ) → HasNumber p → HasNumber a → HasNumber b → number a +ℤ number b ≡ pos 2 *ℤ number p
      → IsNumber (2 * m) (pos 2 *ℤ number p) (mask_value value (crease_mask p a b))
  crease-number p a b h k l middle =
      let x = mask_value value (crease_mask p a b) in
      let terms : List Term = weigh 6 (OfPoint p) ∷ weigh_points 1 (a ∷ b ∷ []) in
      let sum : pos 6 *ℤ number p +ℤ (pos 1 *ℤ number a +ℤ (pos 1 *ℤ number b +ℤ pos 0)) ≡ pos 4 *ℤ (pos 2 *ℤ number p) =
      ap (λ z. pos 6 *ℤ number p +ℤ z) (ends-sum a b ∙ middle) ∙ pos-sum 6 2 (number p) ∙ sym (pos-assoc 4 2 (number p)) in
      let eight : 4 * (2 * m) ≡ 8 * m = omega arith in
      record {
        over =
            over-less 4 (2 * m) x (pos 2 *ℤ number p) (omega arith)
            (ap (λ c. pos c *ℤ x.num) eight ∙ mask-over terms 8 (h.over, (k.over, (l.over, tt))) ∙ ap (λ z. pos x.den *ℤ z) sum);
        proper = mask-proper terms 8 (omega arith) (h.proper, (k.proper, (l.proper, tt)));
      }
