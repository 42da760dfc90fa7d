use Rattle.sparse_laws.proofs.BoundaryLemmas.{sharp-at-complete}
use Rattle.sparse_laws.proofs.levels.boundaries_at_complete_points_are_sharp.Goals as goal

pub returns : goal.returns
returns c = λ kept edge sharp. sharp-at-complete kept edge.e edge.v sharp edge.complete edge.exists edge.ends edge.on_boundary
