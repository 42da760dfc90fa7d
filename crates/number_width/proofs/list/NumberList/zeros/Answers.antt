use Rattle.std.proofs.Common.{rules}
use Rattle.number_width.proofs.list.NumberList.zeros.Goals as goal

-- asked for by name, so that a body that breaks it is refused at once
pub returns-clause-items : goal.returns-clause-items
returns-clause-items c = search rules
