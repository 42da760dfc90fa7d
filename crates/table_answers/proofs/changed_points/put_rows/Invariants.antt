use Rattle.std.proofs.Common.{length}
use Rattle.table_answers.specs.FrameLines.{marked}
use Rattle.table_answers.proofs.FrameLoopLemmas.{IsPutUpTo}
use Rattle.table_answers.proofs.changed_points.put_rows.Given as goal

-- the lines so far
abbrev pub invariant-loop-row : goal.invariant-loop-row
invariant-loop-row g l = IsPutUpTo g.K.Sink l.fn.common l.fn.session l.session l.fn.out l.out

abbrev pub decreases-loop-row : goal.decreases-loop-row
decreases-loop-row g l = length (marked l.session.marks)
