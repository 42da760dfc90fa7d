use Rattle.std.proofs.Common.{arith, ap, refl, ◌∙◌}
use Rattle.far_io.specs.Lines.{LineInput}
use Rattle.far_io.proofs.LineLemmas.{Took-none, ends-now, none-came, on-line}
use Rattle.far_io.proofs.lines.LineReader.read_some.Goals as goal

pub returns-then-n-eq0 : goal.returns-then-n-eq0
returns-then-n-eq0 g c =
    let pending = ap (λ (r : LineInput). r.pending) c.self.view_is in
    let allowed = ap (λ (r : LineInput). r.allowed) c.self.view_is in
    let room = ap (λ (r : LineInput). r.room) c.self.view_is in
    let dry = c.in_ok-n.ensures.fills.end c.if-n-eq0.true in
    on-line
    (none-came c.args.self.now _ c.self.inside.buffer c.fill.new.self c.args.source.now c.fill.new.source _ c.in_ok-n.n c.if-n-eq0.true
    c.in_ok-n.ensures.fills pending refl c.requires.plain c.fill.ensures.line (omega (arith, allowed, c.in_ok-n.ensures.fills.few)) c.fill.ensures.later
    (c.fill.ensures.room ∙ room))
    (ends-now _ c.ended.new.self c.fill.new.source c.fill.new.source c.ended.result (Took-none _) (c.ended.ensures.next _ dry) c.ended.ensures.counted
    (omega arith) c.ended.ensures.room)
