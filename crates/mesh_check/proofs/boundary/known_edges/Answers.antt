use Rattle.mesh_check.proofs.BoundaryLemmas.{keys-sorted, edges-known}
use Rattle.level_builder.proofs.SearchLemmas.{sorted-rises}
use Rattle.mesh_check.proofs.boundary.known_edges.Goals as goal

pub returns-clause-rises : goal.returns-clause-rises
returns-clause-rises c = sorted-rises _ c.sort_unstable.ensures.sorted

pub returns-clause-known : goal.returns-clause-known
returns-clause-known c = λ s word.
    edges-known c.args.sides.now _ (keys-sorted c.args.sides.now _ _ c.in_ok-edges.ensures.words c.in_ok-edges.ensures.keys c.sort_unstable.ensures.permutation c.sort_unstable.ensures.sorted) s word

pub returns-clause-keys : goal.returns-clause-keys
returns-clause-keys c = keys-sorted c.args.sides.now _ _ c.in_ok-edges.ensures.words c.in_ok-edges.ensures.keys c.sort_unstable.ensures.permutation c.sort_unstable.ensures.sorted
