use Rattle.part_laws.proofs.ChildLemmas.{next-whole}
use Rattle.part_laws.proofs.children.points_stay_whole.Goals as goal

pub returns : goal.returns
returns c = λ part x over. next-whole part over x
