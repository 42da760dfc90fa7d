use Rattle.std.proofs.lemmas.Bool.{eqb-true}
use Rattle.theorems.proofs.MeshTagLemmas.{last-corner_tag, untagged-vertex, end-corner}
use Rattle.theorems.proofs.tags.last_tag_names_the_vertex.Goals as goal

pub returns-clause-last : goal.returns-clause-last
returns-clause-last c = λ mesh v last.
    last-corner_tag mesh v last.before last.element last.after last.split (eqb-true v last.element.0 last.is_one) last.none_after

pub returns-clause-untagged : goal.returns-clause-untagged
returns-clause-untagged c = untagged-vertex

pub returns-clause-end_corner : goal.returns-clause-end_corner
returns-clause-end_corner c = end-corner
