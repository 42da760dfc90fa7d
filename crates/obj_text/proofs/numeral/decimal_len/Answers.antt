use Rattle.std.proofs.Common.{arith, sym, ◌∙◌}
use Rattle.std.proofs.lemmas.List.Sums.{position_or_len_is}
use Rattle.subdiv_model.specs.Numeral.{is_exponent_mark}
use Rattle.obj_text.proofs.numeral.decimal_len.Goals as goal

pub returns-then-is_mark : goal.returns-then-is_mark
returns-then-is_mark c =
    sym (position_or_len_is is_exponent_mark c.args.unsigned.now c.loop-i.i 0 (omega arith) c.loop-i.invariant (λ _. sym c.is_mark.ensures ∙ c.if-is_mark.true))

pub returns : goal.returns
returns c =
    sym (position_or_len_is is_exponent_mark c.args.unsigned.now _ 0 (omega arith) (λ k h. c.loop-i.invariant k (omega arith)) (λ h. absurd (omega arith)))
