use Rattle.std.proofs.Common.{rules}
use Rattle.level_topology.proofs.child_tables.origin_from.Goals as goal

-- asked for by name, so that a body that breaks it is refused at once
pub returns-then-number-vertices-2 : goal.returns-then-number-vertices-2
returns-then-number-vertices-2 c = search rules
