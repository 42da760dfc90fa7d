use Rattle.std.proofs.Common.{◌++◌, ap, sym, ◌∙◌}
use Rattle.obj_out.proofs.DecimalTextLemmas.{decimal-some, put-three}
use Rattle.obj_out.proofs.waiting.Waiting.push_decimal.Goals as goal

pub returns-then-digits-ne0 : goal.returns-then-digits-ne0
returns-then-digits-ne0 c =
    put-three _ _ _ _ _ _ _ c.push_wide.ensures.text c.push_byte.ensures c.push_last_digits.ensures
    ∙ ap (λ t. c.args.self.now ++ t) (sym (decimal-some c.args.digits c.args.number.now.whole c.args.number.now.units c.if-digits-ne0.true c.requires.units))
