use Rattle.std.proofs.Common.{◌≡◌, ◌∙◌, ◌&&◌, ◌↔◌, sym, ap, subst, map, get_or, IsErr, IsTrue}
use Rattle.std.proofs.lemmas.List.{get_or-map}
use Rattle.std.proofs.lemmas.Result.{IfOk-weaker}
use Rattle.subdiv_model.specs.Sharpness as model
use Rattle.subdiv_model.specs.Sharpness.{Smooth, chaikin_child_of, chaikin_overflows, is_semi_sharp}
use Rattle.sharpness_rules.specs.declared.child.Method.TheVariants.{Chaikin}
use Rattle.sharpness_rules.specs.View.{sharpness_of}
use Rattle.sharpness_rules.proofs.child.chaikin_child.Goals as goal

pub returns-clause-overflow : goal.returns-clause-overflow
returns-clause-overflow c =
    let ring = map sharpness_of c.args.ring.now in
    let here : get_or ring c.args.at Smooth ≡ sharpness_of c.index-ring-at.result =
    get_or-map sharpness_of c.args.ring.now c.args.at _ Smooth c.requires.in_range ∙ ap sharpness_of (sym c.index-ring-at.is) in
    let P : model.Sharpness → Type 0 = λ s. IsErr c.half.result ↔ IsTrue (is_semi_sharp s && chaikin_overflows ring) in
    subst P (sym here) (c.half.ensures.overflow Chaikin c.args.ring.now c.of.ensures)

pub returns-clause-child : goal.returns-clause-child
returns-clause-child c =
    let ring = map sharpness_of c.args.ring.now in
    let here : get_or ring c.args.at Smooth ≡ sharpness_of c.index-ring-at.result =
    get_or-map sharpness_of c.args.ring.now c.args.at _ Smooth c.requires.in_range ∙ ap sharpness_of (sym c.index-ring-at.is) in
    IfOk-weaker c.half.result _ _ (λ s made. made ∙ sym (ap (chaikin_child_of ring) here)) (c.half.ensures.half Chaikin c.args.ring.now c.args.at c.of.ensures c.requires.in_range c.index-ring-at.is)
