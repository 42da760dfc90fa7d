use Rattle.sparse_texture_laws.proofs.PredicateLemmas.{written-selected}
use Rattle.sparse_texture_laws.proofs.selections.written_levels_show_the_selected_faces.Goals as goal

pub returns : goal.returns
returns c = written-selected
