use Rattle.std.proofs.Common.{◌≡◌, ap, sym, subst, arith, refl, ◌∙◌, [], ◌∷◌, ◌++◌, List, map}
use Rattle.subdiv_model.specs.Mask as model
use Rattle.subdiv_model.specs.Mask.{OfPoint, weigh, corner_mask}
use Rattle.mask_laws.proofs.MaskLemmas.{mean-corner}
use Rattle.mask_rules.specs.View.{term_of, terms_of}
use Rattle.mask_rules.specs.Masks.{IsMask}
use Rattle.mask_rules.proofs.TermLemmas.{points-mask}
use Rattle.mask_rules.proofs.vertex.corner_mask.Goals as goal

one-item : {X Y : Type 0} (f : X → Y) (before now : List X) (x : X) → before ≡ [] → now ≡ before ++ x ∷ [] → map f now ≡ f x ∷ []
one-item f before now x e k = ap (map f) (k ∙ ap (λ xs. xs ++ x ∷ []) e)

pub returns : goal.returns
returns c =
    let P : List model.Term → Type 0 = λ terms. IsMask (record { terms = terms; denominator = 1 }) (corner_mask c.args.v) in
    let own : terms_of c.push_reserved.new.self.items ≡ weigh 1 (OfPoint c.args.v) ∷ [] =
    one-item term_of c.new-terms.result.items c.push_reserved.new.self.items _ c.new-terms.ensures.items c.push_reserved.ensures.items in
    subst P (sym own) (points-mask 1 (c.args.v ∷ []) 1 (omega arith) refl (mean-corner c.args.v))
