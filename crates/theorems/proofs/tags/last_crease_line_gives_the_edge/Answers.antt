use Rattle.theorems.proofs.LevelTagLemmas.{last-edge, no-edge}
use Rattle.theorems.proofs.MeshTagLemmas.{boundary-always}
use Rattle.theorems.specs.Laws.{mesh_of}
use Rattle.theorems.proofs.tags.last_crease_line_gives_the_edge.Goals as goal

pub returns-clause-last : goal.returns-clause-last
returns-clause-last c = λ text edge last inner.
    last-edge text.lines last.before last.after last.element text.least edge last.split last.is_one last.none_after inner.is_edge inner.is_inner

pub returns-clause-untagged : goal.returns-clause-untagged
returns-clause-untagged c = λ text. no-edge text.lines text.least

pub returns-clause-boundary : goal.returns-clause-boundary
returns-clause-boundary c = λ text. boundary-always (mesh_of text)
