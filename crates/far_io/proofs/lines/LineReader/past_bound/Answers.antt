use Rattle.far_io.proofs.LineLemmas.{ends-now}
use Rattle.far_io.proofs.lines.LineReader.past_bound.Goals as goal

pub returns : goal.returns
returns g c =
    let dry = c.in_ok-has_more.ensures.end c.if-branch.false in
    ends-now _ _ _ _ c.ended.result (c.in_ok-has_more.ensures.same c.if-branch.false) (c.ended.ensures.next _ dry) c.ended.ensures.counted
    c.has_more.ensures.later c.ended.ensures.room
