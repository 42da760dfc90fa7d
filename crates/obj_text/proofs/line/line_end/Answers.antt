use Rattle.std.proofs.Common.{◌≡◌, ◌+◌, length, arith, sym, ap, ◌∙◌, eq-eqb}
use Rattle.std.specs.List.{position_or_len}
use Rattle.std.proofs.lemmas.List.Sums.{position_or_len_is}
use Rattle.subdiv_model.specs.ObjLine.{is_lf}
use Rattle.obj_text.proofs.line.line_end.Goals as goal

pub returns-then-b-eq10 : goal.returns-then-b-eq10
returns-then-b-eq10 c =
    ap (λ n. c.args.at + n) (sym (position_or_len_is is_lf c.split_at.result.1.now c.loop-i.i 0 (omega arith) c.loop-i.invariant (λ _. eq-eqb _ _ c.if-b-eq10.true)))
    ∙ ap (λ rest. c.args.at + position_or_len is_lf rest) c.split_at.ensures.back

pub returns : goal.returns
returns c =
    let whole : position_or_len is_lf c.split_at.result.1.now ≡ length c.split_at.result.1.now =
    position_or_len_is is_lf c.split_at.result.1.now (length c.split_at.result.1.now) 0 (omega arith) (λ k h. c.loop-i.invariant k (omega arith)) (λ h. absurd (omega arith)) in
    omega (arith, ap (position_or_len is_lf) c.split_at.ensures.back)
