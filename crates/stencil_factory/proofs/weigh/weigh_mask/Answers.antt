use Rattle.std.proofs.Common.{ap, sym, ◌∙◌, subst}
use Rattle.subdiv_model.specs.Refined.{mask_denominator, source_denominator}
use Rattle.mask_rules.specs.View.{scheme_of, terms_of}
use Rattle.child_masks.specs.Masks.{mask_from, origin_at}
use Rattle.child_masks.specs.View.{seen_terms}
use Rattle.child_masks.specs.Found.{AreFaceDenominators}
use Rattle.child_masks.proofs.OriginLemmas.{origin-within}
use Rattle.child_masks.proofs.MaskLemmas.{joined-from}
use Rattle.stencil_factory.specs.Flat.{IsWeighed}
use Rattle.stencil_factory.proofs.SurveyLemmas.{found-faces}
use Rattle.stencil_factory.proofs.KnownLemmas.{part-weigh, part-can, part-weighed}
use Rattle.stencil_factory.proofs.weigh.weigh_mask.Goals as goal

pub weigh_face-requires-clause-den : goal.weigh_face-requires-clause-den
weigh_face-requires-clause-den g c =
    c.requires.den ∙ ap (λ o. mask_denominator (source_denominator c.args.parent.now.level c.args.dens.now) (mask_from c.args.parent.now.level (scheme_of c.args.scheme) o)) c.in-Corners.ensures.0

pub add_terms-requires-clause-weigh : goal.add_terms-requires-clause-weigh
add_terms-requires-clause-weigh g c =
    let parent = c.args.parent.now in
    let scheme = scheme_of c.args.scheme in
    let origins = c.args.child.now.origins in
    let origin = origin_at origins c.args.p in
    let dens = c.args.dens.now in
    let within = origin-within parent c.args.child.now scheme c.facts-2.ensures c.requires.child c.args.p c.requires.known in
    let faces = subst (AreFaceDenominators parent.level dens) (sym c.deref.ensures.value) (found-faces parent scheme origins dens c.args.survey.now c.requires.survey) in
    part-weigh parent c.facts.ensures scheme origin within dens c.deref.result.now c.requires.dens faces
    (seen_terms c.mask.new.made c.in-Terms.mask) c.in-Terms.ensures.1 (joined-from parent.level scheme origin) c.args.den c.requires.den c.requires.short
    (terms_of c.terms.result.now) c.terms.ensures c.denominator.result c.quotient-multiple.result c.denominator.ensures c.quotient-multiple.ensures
    c.args.sums.now c.requires.clear

pub add_terms-requires-clause-can : goal.add_terms-requires-clause-can
add_terms-requires-clause-can g c =
    let parent = c.args.parent.now in
    let scheme = scheme_of c.args.scheme in
    let origins = c.args.child.now.origins in
    let origin = origin_at origins c.args.p in
    let dens = c.args.dens.now in
    let within = origin-within parent c.args.child.now scheme c.facts-2.ensures c.requires.child c.args.p c.requires.known in
    let faces = subst (AreFaceDenominators parent.level dens) (sym c.deref.ensures.value) (found-faces parent scheme origins dens c.args.survey.now c.requires.survey) in
    part-can parent c.facts.ensures scheme origin within dens c.deref.result.now c.requires.dens faces
    (seen_terms c.mask.new.made c.in-Terms.mask) c.in-Terms.ensures.1 (joined-from parent.level scheme origin) c.args.den c.requires.den c.requires.short
    (terms_of c.terms.result.now) c.terms.ensures c.denominator.result c.quotient-multiple.result c.denominator.ensures c.quotient-multiple.ensures
    c.args.sums.now c.requires.clear g.T.Natural.most c.requires.fits

pub returns-in-Corners : goal.returns-in-Corners
returns-in-Corners g c =
    subst (λ o. IsWeighed c.args.parent.now.level c.args.dens.now (mask_from c.args.parent.now.level (scheme_of c.args.scheme) o) c.weigh_face.new.sums) (sym c.in-Corners.ensures.0) c.weigh_face.ensures

pub returns-in-Terms : goal.returns-in-Terms
returns-in-Terms g c =
    let parent = c.args.parent.now in
    let scheme = scheme_of c.args.scheme in
    let origins = c.args.child.now.origins in
    let origin = origin_at origins c.args.p in
    let dens = c.args.dens.now in
    let within = origin-within parent c.args.child.now scheme c.facts-2.ensures c.requires.child c.args.p c.requires.known in
    let faces = subst (AreFaceDenominators parent.level dens) (sym c.deref.ensures.value) (found-faces parent scheme origins dens c.args.survey.now c.requires.survey) in
    part-weighed parent c.facts.ensures scheme origin within dens c.deref.result.now c.requires.dens faces
    (seen_terms c.mask.new.made c.in-Terms.mask) c.in-Terms.ensures.1 (joined-from parent.level scheme origin) c.args.den c.requires.den c.requires.short
    (terms_of c.terms.result.now) c.terms.ensures c.denominator.result c.quotient-multiple.result c.denominator.ensures c.quotient-multiple.ensures
    c.args.sums.now c.requires.clear c.add_terms.new.sums c.add_terms.ensures
