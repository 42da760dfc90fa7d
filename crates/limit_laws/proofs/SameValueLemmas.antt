-- Values that are the same, and values over denominators above 0.
use Rattle.std.proofs.Common.{ℕ, ◌*◌, ◌<◌, pos, ◌*ℤ◌, List, [], ◌∷◌, arith, ap, ◌∙◌}
use Rattle.std.proofs.Math.IntN.{*ℤ_comm}
use Rattle.subdiv_model.specs.Mask.{SourcePoint, Term, Mask, mask_of_corners}
use Rattle.subdiv_model.specs.Value.{Value, IsSameValue}
use Rattle.subdiv_model.specs.Refined.{mask_value}
use Rattle.number_laws.proofs.WholeNumberLemmas.{pos-swap, pos-cancel}
use Rattle.number_laws.proofs.MultipleLemmas.{product-positive}
use Rattle.mask_laws.specs.Laws.{value_of_terms}

pub same-trans : (x y z : Value) → 0 < y.den → IsSameValue x y → IsSameValue y z → IsSameValue x z
same-trans x y z positive h k =
    pos-cancel y.den (x.num *ℤ pos z.den) (z.num *ℤ pos x.den) positive
    (ap (λ n. pos y.den *ℤ n) (*ℤ_comm x.num (pos z.den))
    ∙ pos-swap y.den z.den x.num
    ∙ ap (λ n. pos z.den *ℤ n) (*ℤ_comm (pos y.den) x.num ∙ h ∙ *ℤ_comm y.num (pos x.den))
    ∙ pos-swap z.den x.den y.num
    ∙ ap (λ n. pos x.den *ℤ n) (*ℤ_comm (pos z.den) y.num ∙ k ∙ *ℤ_comm z.num (pos y.den))
    ∙ pos-swap x.den y.den z.num
    ∙ ap (λ n. pos y.den *ℤ n) (*ℤ_comm (pos x.den) z.num))

module _ (value : SourcePoint → Value) (positive : (s : SourcePoint) → 0 < (value s).den) where
  terms-positive : (q : ℕ) (terms : List Term) → 0 < q → 0 < (value_of_terms value terms q).den
  terms-positive q [] some = omega arith
  terms-positive q (t ∷ terms) some =
      product-positive (q * (value t.source).den) (value_of_terms value terms q).den (product-positive q (value t.source).den some (positive t.source))
      (terms-positive q terms some)

-- the value of a mask over denominators above 0 is over one
pub mask-positive : (value : SourcePoint → Value) (mask : Mask) → ((s : SourcePoint) → 0 < (value s).den) → 0 < mask.denominator
    → 0 < (mask_value value mask).den
mask-positive value mask positive some = terms-positive value positive mask.denominator mask.terms some

-- the denominator of a face mask's value is above 0, even without corners
pub corners-positive : (value : SourcePoint → Value) (corners : List ℕ) → ((s : SourcePoint) → 0 < (value s).den)
    → 0 < (mask_value value (mask_of_corners corners)).den
corners-positive value [] positive = omega arith
corners-positive value (c ∷ corners) positive = mask-positive value (mask_of_corners (c ∷ corners)) positive (omega arith)
