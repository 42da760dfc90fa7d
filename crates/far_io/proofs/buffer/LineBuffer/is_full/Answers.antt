use Rattle.std.proofs.Common.{rules}
use Rattle.far_io.proofs.buffer.LineBuffer.is_full.Goals as goal

-- asked for by name, so that a body that breaks it is refused at once
pub returns-clause-full : goal.returns-clause-full
returns-clause-full c = search rules
