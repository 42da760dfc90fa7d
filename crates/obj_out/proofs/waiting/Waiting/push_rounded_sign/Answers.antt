use Rattle.std.proofs.Common.{ap, sym, ◌∙◌, ◌++◌}
use Rattle.std.specs.Int.{w128}
use Rattle.std.proofs.lemmas.Int.{to_z-of_z}
use Rattle.obj_out.proofs.NumberLemmas.{signed-whole, signed-units}
use Rattle.obj_out.proofs.waiting.Waiting.push_rounded_sign.Goals as goal
use Rattle.obj_out.proofs.waiting.Waiting.push_rounded_sign.Goals.{then-number-ne0-via-then-number-ne0, then-number-ne0-via-else-number-ne0+then-number-ne0-2}

pub returns-then-number-ne0-clause-text : goal.returns-then-number-ne0-clause-text
returns-then-number-ne0-clause-text c =
    let text = simp (to_z-of_z w128 _ c.ranges.num) at c.push_sign.ensures.text in
    elim c.then-number-ne0.branch [
      | then-number-ne0-via-then-number-ne0 w ↦
          text ∙ ap (λ t. c.args.self.now ++ t) (sym (signed-whole c.args.num c.args.number.now.whole c.args.number.now.units c.args.digits w.if-number-ne0.true))
      | then-number-ne0-via-else-number-ne0+then-number-ne0-2 w ↦
          text ∙ ap (λ t. c.args.self.now ++ t) (sym (signed-units c.args.num c.args.number.now.whole c.args.number.now.units c.args.digits w.if-number-ne0-2.true))
    ]
