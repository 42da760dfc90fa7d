use Rattle.std.proofs.Common.{arith, sym, eq-eqb}
use Rattle.std.proofs.lemmas.List.Sums.{position_or_len_is}
use Rattle.subdiv_model.specs.Numeral.{is_slash}
use Rattle.obj_tags.proofs.words.part_len.Goals as goal

pub returns-then-b-eq47 : goal.returns-then-b-eq47
returns-then-b-eq47 c =
    sym (position_or_len_is is_slash c.args.word.now c.loop-i.i 0 (omega arith) c.loop-i.invariant (λ _. eq-eqb _ _ c.if-b-eq47.true))

pub returns : goal.returns
returns c =
    sym (position_or_len_is is_slash c.args.word.now _ 0 (omega arith) (λ k h. c.loop-i.invariant k (omega arith)) (λ h. absurd (omega arith)))
