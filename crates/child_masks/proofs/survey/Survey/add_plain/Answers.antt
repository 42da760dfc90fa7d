use Rattle.std.proofs.Common.{refl}
use Rattle.subdiv_model.specs.Mask.{vertex_mask}
use Rattle.subdiv_model.specs.Refined.{source_denominator}
use Rattle.level_topology.specs.Child.{FromVertex}
use Rattle.mask_rules.specs.View.{scheme_of}
use Rattle.mask_rules.proofs.EqualLemmas.{joined-vertex_mask}
use Rattle.child_masks.proofs.AmongLemmas.{part-sources, among-level}
use Rattle.child_masks.proofs.AddLemmas.{have-denominators, added-mask}
use Rattle.child_masks.proofs.MaskLemmas.{left-next, added-still}
use Rattle.child_masks.proofs.PointLemmas.{own-vertex}
use Rattle.child_masks.proofs.survey.Survey.add_plain.Goals as goal

pub add_mask-requires-clause-among : goal.add_mask-requires-clause-among
add_mask-requires-clause-among c =
    let level = c.args.parent.now.level in
    let scheme = scheme_of c.args.scheme in
    among-level level _ _ c.put_plain.new.self (vertex_mask level scheme c.args.v) c.terms.result.now c.put_plain.ensures.mask (joined-vertex_mask level c.args.v scheme)
    (part-sources c.args.parent.now scheme (FromVertex c.args.v) c.facts.ensures c.requires.known.known) c.terms.ensures c.requires.can.points.count c.requires.can.faces.count

pub returns : goal.returns
returns c =
    let level = c.args.parent.now.level in
    let scheme = scheme_of c.args.scheme in
    let dens = c.args.dens.now in
    let faces = c.args.self.now.faces.items in
    record {
      added = added-still _ _ c.args.self.now c.add_mask.new.self _
          (added-mask (source_denominator level dens) dens faces c.put_plain.new.self (vertex_mask level scheme c.args.v) _ _ c.args.self.now c.add_mask.new.self
          (have-denominators c.args.parent.now dens faces c.facts.ensures c.requires.can.points c.requires.can.faces) c.put_plain.ensures.mask (joined-vertex_mask level c.args.v scheme) c.terms.ensures c.denominator.ensures
          c.in_ok-add_mask.ensures.added) refl refl refl;
      fine = own-vertex level scheme c.args.v c.put_plain.ensures.fine;
      kept = left-next c.args.parent.now scheme c.args.v c.args.self.now.masks c.add_mask.new.self.masks _ c.add_mask.ensures.masks c.leave.ensures c.requires.plain c.requires.known.known c.requires.can.kept;
    }
