use Rattle.std.proofs.Common.{rules}
use Rattle.obj_out.proofs.rounding.rounds_up.Goals as goal

-- asked for by name, so that a body that breaks it is refused at once
pub returns-then-den-rest-2 : goal.returns-then-den-rest-2
returns-then-den-rest-2 c = search rules
