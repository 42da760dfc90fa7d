use Rattle.std.proofs.Common.{rules}
use Rattle.flat_arrays.proofs.wide.Wide.natural.Goals as goal

-- asked for by name, so that a body that breaks it is refused at once
pub returns : goal.returns
returns c = search rules
