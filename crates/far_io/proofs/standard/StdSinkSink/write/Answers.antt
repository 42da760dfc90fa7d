use Rattle.std.proofs.Common.{rules}
use Rattle.far_io.proofs.standard.StdSinkSink.write.Goals as goal

-- asked for by name, so that a body that breaks it is refused at once
pub returns-in-Ok-clause-some : goal.returns-in-Ok-clause-some
returns-in-Ok-clause-some g c = search rules
