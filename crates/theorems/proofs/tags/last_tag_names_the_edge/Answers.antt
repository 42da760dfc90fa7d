use Rattle.theorems.proofs.MeshTagLemmas.{last-crease, untagged-edge, boundary-always}
use Rattle.theorems.proofs.tags.last_tag_names_the_edge.Goals as goal

pub returns-clause-last : goal.returns-clause-last
returns-clause-last c = λ mesh edge last inner.
    last-crease mesh edge last.before last.element last.after last.split last.is_one last.none_after inner.is_edge inner.is_inner

pub returns-clause-untagged : goal.returns-clause-untagged
returns-clause-untagged c = untagged-edge

pub returns-clause-boundary : goal.returns-clause-boundary
returns-clause-boundary c = boundary-always
