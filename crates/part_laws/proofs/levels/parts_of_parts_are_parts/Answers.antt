use Rattle.part_laws.proofs.JoinLemmas.{corners-named}
use Rattle.part_laws.proofs.SelfLemmas.{joined-level, joined-whole}
use Rattle.part_laws.proofs.levels.parts_of_parts_are_parts.Goals as goal

pub returns-clause-part : goal.returns-clause-part
returns-clause-part c = λ both. joined-level both.part.name both.name both.part.faces both.faces both.part.level both.part.whole both.whole both.part.is_part both.is_part

pub returns-clause-whole : goal.returns-clause-whole
returns-clause-whole c = λ both at all.
    joined-whole both.name both.part.faces both.faces both.part.whole.polygons both.whole.polygons both.is_part.polygons (both.part.name at.point)
    (corners-named both.part.name both.part.faces both.part.level.polygons both.part.whole.polygons both.part.is_part.polygons at.point at.is_there) at.has_all all
