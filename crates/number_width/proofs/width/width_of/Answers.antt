use Rattle.std.proofs.Common.{rules}
use Rattle.number_width.proofs.width.width_of.Goals as goal

-- asked for by name, so that a body that breaks it is refused at once
pub returns-else-number : goal.returns-else-number
returns-else-number c = search rules
