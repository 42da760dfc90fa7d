use Rattle.std.proofs.Common.{arith, sym, eq-eqb}
use Rattle.std.proofs.lemmas.List.Sums.{position_or_len_is}
use Rattle.subdiv_model.specs.Numeral.{is_point}
use Rattle.obj_text.proofs.numeral.whole_len.Goals as goal

pub returns-then-b-eq46 : goal.returns-then-b-eq46
returns-then-b-eq46 c =
    sym (position_or_len_is is_point c.args.decimal.now c.loop-i.i 0 (omega arith) c.loop-i.invariant (λ _. eq-eqb _ _ c.if-b-eq46.true))

pub returns : goal.returns
returns c =
    sym (position_or_len_is is_point c.args.decimal.now _ 0 (omega arith) (λ k h. c.loop-i.invariant k (omega arith)) (λ h. absurd (omega arith)))
