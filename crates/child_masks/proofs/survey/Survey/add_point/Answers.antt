use Rattle.std.proofs.Common.{sym, subst}
use Rattle.level_topology.specs.ChildTables.{origin_of}
use Rattle.mask_rules.specs.View.{scheme_of}
use Rattle.child_masks.specs.Known.{IsPartKnown}
use Rattle.child_masks.specs.Found.{IsPointAdded}
use Rattle.child_masks.proofs.PointLemmas.{added-face, no-vertex-face}
use Rattle.child_masks.proofs.survey.Survey.add_point.Goals as goal

pub returns-in_ok-add_face-in-Face : goal.returns-in_ok-add_face-in-Face
returns-in_ok-add_face-in-Face c =
    let parent = c.args.parent.now in
    let scheme = scheme_of c.args.scheme in
    let dens = c.args.dens.now in
    let old = c.args.self.now in
    let new = c.add_face.new.self in
    let within = subst (λ o. IsPartKnown parent scheme (origin_of o)) c.in-Face.is c.requires.known in
    subst (λ o. IsPointAdded parent scheme dens (origin_of o) old new) (sym c.in-Face.is) (record {
      added = added-face parent dens old.faces.items c.in-Face.f old new c.facts.ensures c.requires.can.points c.requires.can.faces within c.in_ok-add_face-in-Face.ensures.added;
      fine = no-vertex-face parent.level scheme c.in-Face.f;
      kept = c.add_face.ensures.masks;
    })
