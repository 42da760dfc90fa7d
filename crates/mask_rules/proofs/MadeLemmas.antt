-- Terms that are written one after another into their places.
use Rattle.std.proofs.Common.{◌≡◌, ◌+◌, ◌≤◌, List, [], ◌∷◌, ◌++◌, length, take, set, arith, ap, ◌∙◌}
use Rattle.std.proofs.lemmas.List.{length-append}
use Rattle.subdiv_model.specs.Mask as model
use Rattle.mask_rules.specs.declared.mask.Term.{Term}
use Rattle.mask_rules.specs.View.{term_of, terms_of}

-- two from the start on
pub seen-two : (terms : List Term) (a b : Term) (x y : model.Term) → 2 ≤ length terms → term_of a ≡ x → term_of b ≡ y
    → terms_of (take 2 (set (set terms 0 a) 1 b)) ≡ x ∷ y ∷ []
seen-two [] a b x y h p q = absurd (omega (arith, h))
seen-two (s ∷ []) a b x y h p q = absurd (omega (arith, h))
seen-two (s ∷ t ∷ terms) a b x y h p q = cc

-- the first four terms after four are written
pub seen-four : (terms : List Term) (a b c d : Term) (x y z w : model.Term) → 4 ≤ length terms → term_of a ≡ x → term_of b ≡ y → term_of c ≡ z → term_of d ≡ w
    → terms_of (take 4 (set (set (set (set terms 0 a) 1 b) 2 c) 3 d)) ≡ x ∷ y ∷ z ∷ w ∷ []
seen-four [] a b c d x y z w h p q r s = absurd (omega (arith, h))
seen-four (e ∷ []) a b c d x y z w h p q r s = absurd (omega (arith, h))
seen-four (e ∷ f ∷ []) a b c d x y z w h p q r s = absurd (omega (arith, h))
seen-four (e ∷ f ∷ g ∷ []) a b c d x y z w h p q r s = absurd (omega (arith, h))
seen-four (e ∷ f ∷ g ∷ i ∷ terms) a b c d x y z w h p q r s = cc

-- one term more is one more
pub length-more : (old new : List model.Term) (t : model.Term) → new ≡ old ++ t ∷ [] → length new ≡ length old + 1
length-more old new t e = ap length e ∙ length-append old (t ∷ [])
