use Rattle.std.proofs.Common.{rules}
use Rattle.far_io.proofs.source.is_long.Goals as goal

-- asked for by name, so that a body that breaks it is refused at once
pub returns-clause-long : goal.returns-clause-long
returns-clause-long c = search rules
