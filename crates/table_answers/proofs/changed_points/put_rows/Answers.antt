use Rattle.std.proofs.Common.{arith}
use Rattle.table_answers.proofs.FrameLoopLemmas.{begun, fewer, next-put, next-failed, all-put, all-unmarked}
use Rattle.table_answers.proofs.changed_points.put_rows.Goals as goal

pub loop-row-init : goal.loop-row-init
loop-row-init g c = begun c.args.common c.args.session.now c.args.out.now c.requires.fine

pub loop-row-smaller : goal.loop-row-smaller
loop-row-smaller g c =
    omega (arith, fewer c.loop-row.invariant c.in-Some.row c.next_changed.new.self c.in-Some.ensures.least c.in-Some.ensures.state)

pub loop-row-preserved : goal.loop-row-preserved
loop-row-preserved g c =
    next-put c.loop-row.invariant c.in-Some.row c.next_changed.new.self c.in-Some.ensures.least c.in-Some.ensures.state c.in_ok-put_row.ensures

pub returns-in_err-put_row-clause-lines : goal.returns-in_err-put_row-clause-lines
returns-in_err-put_row-clause-lines g c =
    next-failed c.loop-row.invariant c.in-Some.row c.next_changed.new.self c.in-Some.ensures.least c.in-Some.ensures.state
    c.from_residual.ensures.0 c.in_err-put_row.ensures

pub returns-clause-lines : goal.returns-clause-lines
returns-clause-lines g c = all-put c.loop-row.invariant c.next_changed.new.self c.in_default.ensures.least c.in_default.ensures.state

pub returns-clause-session : goal.returns-clause-session
returns-clause-session g c = all-unmarked c.loop-row.invariant c.next_changed.new.self c.in_default.ensures.least c.in_default.ensures.state
