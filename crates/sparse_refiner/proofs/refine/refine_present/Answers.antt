use Rattle.std.proofs.Common.{◌∙◌, sym, subst}
use Rattle.level_topology.specs.Topology.{IsTopology}
use Rattle.sparse_refiner.proofs.StepLemmas.{within-at, points-at}
use Rattle.sparse_refiner.proofs.refine.refine_present.Goals as goal

pub number_points-requires : goal.number_points-requires
number_points-requires g c = record {
  within = within-at c.args.sparse.now c.level-2.result.now c.level-2.ensures (subst IsTopology (c.level.ensures ∙ sym c.level-2.ensures) c.facts.ensures) c.args.present c.requires.present c.deref.result.now c.deref.ensures.value;
}

pub refine_numbered-requires-clause-points : goal.refine_numbered-requires-clause-points
refine_numbered-requires-clause-points g c =
    points-at c.args.sparse.now c.level-2.result.now c.level-2.ensures (subst IsTopology (c.level.ensures ∙ sym c.level-2.ensures) c.facts.ensures) c.args.present c.requires.present c.deref.result.now c.deref.ensures.value c.in_ok-points.points c.in_ok-points.ensures
