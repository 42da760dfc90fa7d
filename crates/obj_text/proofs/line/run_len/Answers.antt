use Rattle.std.proofs.Common.{arith, sym, ◌∙◌}
use Rattle.std.proofs.lemmas.List.Sums.{position_or_len_is}
use Rattle.subdiv_model.specs.ObjLine.{is_blank}
use Rattle.obj_text.proofs.line.run_len.Goals as goal

pub returns-then-is_blank_byte : goal.returns-then-is_blank_byte
returns-then-is_blank_byte c =
    sym (position_or_len_is is_blank c.args.line.now c.loop-i.i 0 (omega arith) c.loop-i.invariant (λ _. sym c.is_blank_byte.ensures ∙ c.if-is_blank_byte.true))

pub returns : goal.returns
returns c =
    sym (position_or_len_is is_blank c.args.line.now _ 0 (omega arith) (λ k h. c.loop-i.invariant k (omega arith)) (λ h. absurd (omega arith)))
