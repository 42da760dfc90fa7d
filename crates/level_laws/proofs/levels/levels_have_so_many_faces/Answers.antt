use Rattle.level_laws.proofs.FaceLemmas.{faces-after}
use Rattle.level_laws.proofs.levels.levels_have_so_many_faces.Goals as goal

pub returns : goal.returns
returns c = faces-after
