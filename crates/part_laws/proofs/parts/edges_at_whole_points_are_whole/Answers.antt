use Rattle.part_laws.proofs.PartLemmas.{whole-along}
use Rattle.part_laws.proofs.parts.edges_at_whole_points_are_whole.Goals as goal

pub returns : goal.returns
returns c = whole-along
