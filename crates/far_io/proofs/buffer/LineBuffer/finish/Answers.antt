use Rattle.std.proofs.Common.{rules}
use Rattle.far_io.proofs.buffer.LineBuffer.finish.Goals as goal

-- asked for by name, so that a body that breaks it is refused at once
pub returns-clause-line : goal.returns-clause-line
returns-clause-line c = search rules
