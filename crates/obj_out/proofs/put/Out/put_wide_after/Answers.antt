use Rattle.std.proofs.Common.{rules}
use Rattle.obj_out.proofs.put.Out.put_wide_after.Goals as goal

-- asked for by name, so that a body that breaks it is refused at once
pub returns-then-n : goal.returns-then-n
returns-then-n g c = search rules
