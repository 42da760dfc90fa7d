use Rattle.part_laws.proofs.PartLemmas.{edge-ends, same-faces-along, same-boundary}
use Rattle.part_laws.proofs.NameLemmas.{same-edge-at}
use Rattle.part_laws.proofs.parts.faces_along_whole_edges_are_the_same.Goals as goal

pub returns-clause-direction : goal.returns-clause-direction
returns-clause-direction c = λ part along. same-edge-at part.name part.faces part.polygons part.whole part.is_part along.edge along.is_edge along.has_all

pub returns-clause-faces : goal.returns-clause-faces
returns-clause-faces c = λ part along. same-faces-along part.name part.faces part.polygons part.whole part.is_part along.edge (edge-ends part.name part.faces part.polygons part.whole part.is_part along.edge along.is_edge) along.has_all

pub returns-clause-boundary : goal.returns-clause-boundary
returns-clause-boundary c = λ part along. same-boundary part.name part.faces part.polygons part.whole part.is_part along.edge (edge-ends part.name part.faces part.polygons part.whole part.is_part along.edge along.is_edge) along.has_all
