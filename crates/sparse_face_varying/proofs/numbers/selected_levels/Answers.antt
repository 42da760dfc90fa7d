use Rattle.sparse_face_varying.proofs.NumberLemmas.{levels-found}
use Rattle.sparse_face_varying.proofs.numbers.selected_levels.Goals as goal

pub returns : goal.returns
returns g c = λ base predicate are. levels-found c.args.levels.now base predicate c.args.depth c.requires are c.each_selected.result c.each_selected.ensures
