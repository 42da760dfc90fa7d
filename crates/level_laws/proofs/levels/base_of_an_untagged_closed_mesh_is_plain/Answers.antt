use Rattle.level_laws.proofs.PlainLemmas.{plain-base}
use Rattle.level_laws.proofs.levels.base_of_an_untagged_closed_mesh_is_plain.Goals as goal

pub returns : goal.returns
returns c = λ mesh is. plain-base mesh is.creases is.corner_tags is.holes is.boundary is.method
