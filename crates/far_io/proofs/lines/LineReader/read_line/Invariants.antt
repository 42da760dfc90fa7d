use Rattle.far_io.specs.Lines.{ReadsOn}
use Rattle.far_io.proofs.lines.LineReader.read_line.Given as goal

-- bytes came, and no LF is among them
abbrev pub invariant-loop-found : goal.invariant-loop-found
invariant-loop-found g l = ReadsOn g.S.Source l.fn.self l.self l.fn.source l.source

abbrev pub decreases-loop-found : goal.decreases-loop-found
decreases-loop-found g l = l.self.allowed
