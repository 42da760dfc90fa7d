use Rattle.std.proofs.Common.{refl, ap, sym, ◌∙◌, ◌<◌, subst}
use Rattle.std.specs.List.{All}
use Rattle.level_topology.specs.Child.{FromFace}
use Rattle.mask_rules.specs.View.{scheme_of, terms_of}
use Rattle.child_masks.specs.Masks.{origin_at}
use Rattle.child_masks.specs.View.{seen_terms}
use Rattle.child_masks.proofs.OriginLemmas.{origin-within}
use Rattle.child_masks.proofs.MaskLemmas.{joined-from}
use Rattle.stencil_factory.specs.PlaceSet.{Places}
use Rattle.stencil_factory.proofs.KnownLemmas.{ok-weaker}
use Rattle.stencil_factory.proofs.NameLemmas.{terms-named, terms-can-name, corners-within, face-named, named-since}
use Rattle.stencil_factory.proofs.name.name_point.Goals as goal

pub add_all-requires : goal.add_all-requires
add_all-requires c =
    subst (λ n. All (λ v. v < n) c.face_vertices.result.now) (sym (ap (λ (m : Places). m.count) c.start.ensures ∙ c.requires.count))
    (subst (All (λ v. v < c.args.parent.now.level.point_count)) (sym c.face_vertices.ensures) (corners-within c.args.parent.now c.facts.ensures c.in-Corners.f c.in-Corners.ensures.1))

pub name_terms-requires : goal.name_terms-requires
name_terms-requires c =
    let scheme = scheme_of c.args.scheme in
    let origin = origin_at c.args.child.now.origins c.args.p in
    terms-can-name c.args.parent.now c.facts.ensures scheme origin (origin-within c.args.parent.now c.args.child.now scheme c.facts-2.ensures c.requires.child c.args.p c.requires.known)
    (seen_terms c.mask.new.made c.in-Terms.mask) c.in-Terms.ensures.1 (joined-from c.args.parent.now.level scheme origin)
    (terms_of c.terms.result.now) c.terms.ensures c.start.new.self.count (ap (λ (m : Places). m.count) c.start.ensures ∙ c.requires.count)

pub returns-in-Corners : goal.returns-in-Corners
returns-in-Corners c =
    named-since c.add_all.result c.args.parent.now.level (scheme_of c.args.scheme) (FromFace c.in-Corners.f) _ (sym c.in-Corners.ensures.0)
    c.args.members.now c.start.new.self c.start.ensures c.add_all.new.self
    (ok-weaker c.add_all.result _ _
    (face-named c.args.parent.now c.facts.ensures c.in-Corners.f c.face_vertices.result.now c.start.new.self c.add_all.new.self c.in-Corners.ensures.1 c.face_vertices.ensures
    (ap (λ (m : Places). m.count) c.start.ensures ∙ c.requires.count) (ap (λ (m : Places). m.members) c.start.ensures))
    c.add_all.ensures)

pub returns-in-Terms : goal.returns-in-Terms
returns-in-Terms c =
    let level = c.args.parent.now.level in
    let scheme = scheme_of c.args.scheme in
    let origin = origin_at c.args.child.now.origins c.args.p in
    named-since c.name_terms.result level scheme origin _ refl
    c.args.members.now c.start.new.self c.start.ensures c.name_terms.new.members
    (ok-weaker c.name_terms.result _ _
    (terms-named level scheme origin (seen_terms c.mask.new.made c.in-Terms.mask) c.in-Terms.ensures.1 (joined-from level scheme origin)
    (terms_of c.terms.result.now) c.terms.ensures c.start.new.self c.name_terms.new.members
    (ap (λ (m : Places). m.count) c.start.ensures ∙ c.requires.count) (ap (λ (m : Places). m.members) c.start.ensures))
    c.name_terms.ensures)
