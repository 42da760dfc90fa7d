use Rattle.std.proofs.Common.{rules}
use Rattle.far_io.proofs.part.has_more.Goals as goal

-- asked for by name, so that a body that breaks it is refused at once
pub returns-clause-came : goal.returns-clause-came
returns-clause-came g c = search rules
