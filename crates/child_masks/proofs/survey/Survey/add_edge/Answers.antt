use Rattle.std.proofs.lemmas.Result.{on_ok_weaker}
use Rattle.subdiv_model.specs.Mask.{edge_mask}
use Rattle.subdiv_model.specs.Refined.{source_denominator}
use Rattle.level_topology.specs.Topology.{edge_at}
use Rattle.level_topology.specs.Child.{FromEdge}
use Rattle.mask_rules.specs.View.{scheme_of}
use Rattle.mask_rules.proofs.EqualLemmas.{joined-edge_mask}
use Rattle.child_masks.proofs.AmongLemmas.{part-sources, among-level}
use Rattle.child_masks.proofs.AddLemmas.{have-denominators, added-mask}
use Rattle.child_masks.proofs.PointLemmas.{no-vertex-edge}
use Rattle.child_masks.proofs.survey.Survey.add_edge.Goals as goal

pub add_mask-requires-clause-among : goal.add_mask-requires-clause-among
add_mask-requires-clause-among c =
    let level = c.args.parent.now.level in
    let edge = edge_at level.polygons c.args.e in
    let scheme = scheme_of c.args.scheme in
    among-level level _ _ _ (edge_mask level scheme edge) c.terms.result.now c.put_edge.ensures (joined-edge_mask level edge scheme)
    (part-sources c.args.parent.now scheme (FromEdge c.args.e) c.facts.ensures c.requires.known.known) c.terms.ensures c.requires.can.points.count c.requires.can.faces.count

pub returns : goal.returns
returns c =
    let level = c.args.parent.now.level in
    let edge = edge_at level.polygons c.args.e in
    let scheme = scheme_of c.args.scheme in
    let dens = c.args.dens.now in
    let faces = c.args.self.now.faces.items in
    on_ok_weaker c.add_mask.result
    (λ added. record {
      added = added-mask (source_denominator level dens) dens faces _ (edge_mask level scheme edge) _ _ c.args.self.now c.add_mask.new.self
          (have-denominators c.args.parent.now dens faces c.facts.ensures c.requires.can.points c.requires.can.faces) c.put_edge.ensures (joined-edge_mask level edge scheme) c.terms.ensures c.denominator.ensures added;
      fine = no-vertex-edge level scheme c.args.e;
      kept = c.add_mask.ensures.masks;
    })
    c.add_mask.ensures.added
