use Rattle.std.proofs.Common.{rules}
use Rattle.number_width.proofs.list.NumberList.width.Goals as goal

-- asked for by name, so that a body that breaks it is refused at once
pub returns-in-Narrow : goal.returns-in-Narrow
returns-in-Narrow c = search rules
