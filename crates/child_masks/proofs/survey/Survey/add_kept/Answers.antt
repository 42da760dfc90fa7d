use Rattle.std.proofs.Common.{refl}
use Rattle.subdiv_model.specs.Mask.{vertex_mask}
use Rattle.subdiv_model.specs.Refined.{source_denominator}
use Rattle.level_topology.specs.Child.{FromVertex}
use Rattle.mask_rules.specs.View.{scheme_of, seen_vertex}
use Rattle.mask_rules.proofs.EqualLemmas.{joined-vertex_mask}
use Rattle.child_masks.proofs.AmongLemmas.{part-sources, among-level}
use Rattle.child_masks.proofs.ResultLemmas.{of-ok}
use Rattle.child_masks.proofs.AddLemmas.{have-denominators, added-mask}
use Rattle.child_masks.proofs.MaskLemmas.{stored-next, added-still}
use Rattle.child_masks.proofs.PointLemmas.{own-vertex}
use Rattle.child_masks.proofs.survey.Survey.add_kept.Goals as goal

pub add_mask-requires-clause-among : goal.add_mask-requires-clause-among
add_mask-requires-clause-among c =
    let level = c.args.parent.now.level in
    let scheme = scheme_of c.args.scheme in
    among-level level _ _ _ (vertex_mask level scheme c.args.v) c.terms.result.now (of-ok _ _ c.vertex_mask.result c.in-Ok.mask c.in-Ok.is c.vertex_mask.ensures.mask).0 (joined-vertex_mask level c.args.v scheme)
    (part-sources c.args.parent.now scheme (FromVertex c.args.v) c.facts.ensures c.requires.known.known) c.terms.ensures c.requires.can.points.count c.requires.can.faces.count

pub returns-in-Ok : goal.returns-in-Ok
returns-in-Ok c =
    let level = c.args.parent.now.level in
    let scheme = scheme_of c.args.scheme in
    let dens = c.args.dens.now in
    let faces = c.args.self.now.faces.items in
    let mask = of-ok _ _ c.vertex_mask.result c.in-Ok.mask c.in-Ok.is c.vertex_mask.ensures.mask in
    record {
      added = added-still _ _ c.args.self.now c.add_mask.new.self _
          (added-mask (source_denominator level dens) dens faces (seen_vertex c.in-Ok.mask) (vertex_mask level scheme c.args.v) _ _ c.args.self.now c.add_mask.new.self
          (have-denominators c.args.parent.now dens faces c.facts.ensures c.requires.can.points c.requires.can.faces) mask.0 (joined-vertex_mask level c.args.v scheme) c.terms.ensures c.denominator.ensures
          c.in_ok-add_mask-in-Ok.ensures.added) refl refl refl;
      fine = own-vertex level scheme c.args.v mask.1;
      kept = stored-next c.args.parent.now scheme c.args.v c.args.self.now.masks c.add_mask.new.self.masks _ (seen_vertex c.in-Ok.mask) c.add_mask.ensures.masks c.in_ok-keep-in-Ok.ensures mask.0 c.requires.known.known c.requires.can.kept;
    }
