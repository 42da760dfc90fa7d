use Rattle.far_io.specs.Text.{ReadsOnText}
use Rattle.far_io.proofs.text.TextReader.read_line.Given as goal

-- bytes came, and no LF is among them
abbrev pub invariant-loop-found : goal.invariant-loop-found
invariant-loop-found g l = ReadsOnText g.S.Source l.fn.self l.self l.fn.source l.source

abbrev pub decreases-loop-found : goal.decreases-loop-found
decreases-loop-found g l = l.self.allowed
