use Rattle.std.proofs.Common.{map, subst}
use Rattle.subdiv_model.specs.Polygons.{is_among}
use Rattle.sharpness_rules.specs.View.{sharpness_of}
use Rattle.child_slots.specs.HalfTable.{AreAllHalves}
use Rattle.level_topology.specs.Topology.{Topology, IsTopology}
use Rattle.sparse_refiner.specs.Made.{IsHalvesFault}
use Rattle.sparse_refiner.proofs.StepLemmas.{handed-on, halves-fault, are-fine}
use Rattle.sparse_refiner.proofs.refine.refine_numbered.Goals as goal

pub returns-in_err-halves-clause-made : goal.returns-in_err-halves-clause-made
returns-in_err-halves-clause-made g c =
    handed-on _ _ c.from_residual.result c.in_err-halves.field-0.0 c.from_residual.ensures.0 c.from_residual.ensures.1
    (halves-fault c.args.sparse.now (subst IsTopology c.level.ensures c.facts.ensures) c.args.present c.requires.present c.args.points.now c.requires.points c.in_err-halves.field-0.0
    (subst (λ (t : Topology). IsHalvesFault t c.args.points.now c.in_err-halves.field-0.0) c.level-2.ensures c.in_err-halves.ensures))

pub returns-clause-made : goal.returns-clause-made
returns-clause-made g c = record {
  is_next = c.in_ok-step.ensures.step;
  few = c.requires.present.few;
  fine = are-fine c.args.sparse.now (subst IsTopology c.level.ensures c.facts.ensures) c.args.present c.requires.present c.args.points.now c.requires.points (map sharpness_of c.in_ok-halves.halves.items)
      (subst (λ (t : Topology). AreAllHalves t (is_among c.args.points.now) (map sharpness_of c.in_ok-halves.halves.items)) c.level-2.ensures c.in_ok-halves.ensures);
}
