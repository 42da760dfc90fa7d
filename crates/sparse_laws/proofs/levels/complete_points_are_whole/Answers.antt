use Rattle.sparse_laws.proofs.SelectedLemmas.{complete-whole}
use Rattle.sparse_laws.proofs.levels.complete_points_are_whole.Goals as goal

pub returns : goal.returns
returns c = complete-whole
