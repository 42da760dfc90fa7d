use Rattle.part_laws.proofs.NextLemmas.{next-part}
use Rattle.part_laws.proofs.children.parts_of_next_levels_are_parts.Goals as goal

pub returns : goal.returns
returns c = λ part next over. next-part part.name part.faces part.level part.whole part.is_part over.level over.whole next.name next.faces next.level next.is_next
