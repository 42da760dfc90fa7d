use Rattle.part_laws.proofs.SelfLemmas.{self-level, self-whole}
use Rattle.part_laws.proofs.levels.levels_are_parts_of_themselves.Goals as goal

pub returns-clause-part : goal.returns-clause-part
returns-clause-part c = self-level

pub returns-clause-whole : goal.returns-clause-whole
returns-clause-whole c = self-whole
