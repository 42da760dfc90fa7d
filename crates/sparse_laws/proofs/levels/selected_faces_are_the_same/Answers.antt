use Rattle.sparse_laws.proofs.SelectedLemmas.{selected-same}
use Rattle.sparse_laws.proofs.levels.selected_faces_are_the_same.Goals as goal

pub returns : goal.returns
returns c = λ tested. selected-same tested.refinement tested.by
