use Rattle.far_io.proofs.LineLemmas.{on-line, failed-any}
use Rattle.far_io.proofs.lines.LineReader.read_line.Goals as goal

pub returns-in_err-found : goal.returns-in_err-found
returns-in_err-found g c = failed-any c.from_residual.result c.from_residual.ensures.0 (on-line c.loop-found.invariant c.in_err-found.ensures)

pub returns-in-Some : goal.returns-in-Some
returns-in-Some g c = on-line c.loop-found.invariant (rw c.in-Some.is at c.in_ok-found.ensures)
