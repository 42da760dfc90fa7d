use Rattle.std.proofs.Common.{rules}
use Rattle.level_topology.proofs.level.faces_from.Goals as goal

-- asked for by name, so that a body that breaks it is refused at once
pub returns-else-other-first : goal.returns-else-other-first
returns-else-other-first c = search rules
