use Rattle.sparse_texture_laws.proofs.SelectionLemmas.{cut-selection}
use Rattle.sparse_texture_laws.proofs.selections.selected_faces_are_a_selection.Goals as goal

pub returns : goal.returns
returns c = λ base cut predicate depth same. cut-selection base cut same predicate depth
