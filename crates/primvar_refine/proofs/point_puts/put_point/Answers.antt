use Rattle.std.proofs.Common.{ap, sym, ◌∙◌, subst}
use Rattle.mask_rules.specs.View.{scheme_of, terms_of}
use Rattle.child_masks.specs.Masks.{mask_from, origin_at}
use Rattle.child_masks.specs.View.{seen_terms}
use Rattle.child_masks.proofs.MaskLemmas.{joined-from}
use Rattle.primvar_refine.specs.View.{rows_of}
use Rattle.primvar_refine.specs.Made.{CanMake, IsMade}
use Rattle.primvar_refine.proofs.SeenLemmas.{rows-there, count-seen}
use Rattle.primvar_refine.proofs.MadeLemmas.{given-there, given-can, given-made, given-count}
use Rattle.primvar_refine.proofs.PutLemmas.{other-terms}
use Rattle.primvar_refine.proofs.point_puts.put_point.Goals as goal

pub sum_of_terms-value-requires-clause-there : goal.sum_of_terms-value-requires-clause-there
sum_of_terms-value-requires-clause-there g c =
    let level = c.args.parent.now.level in
    let scheme = scheme_of c.args.scheme in
    let origin = origin_at c.args.child.now.origins c.args.p in
    let rows = rows_of g.P.Primvar.numbers c.args.values.now in
    let made = rows_of g.P.Primvar.numbers c.args.made.now in
    let places = c.args.places.now in
    let can = subst (CanMake c.args.start.now.width level rows made places (mask_from level scheme origin)) (sym c.den_at-den.ensures) c.requires.can in
    rows-there rows made places c.terms-terms.result.now
    (given-there c.args.start.now.width level rows made places (seen_terms c.mask.new.made c.in-Terms.mask) (mask_from level scheme origin) c.den_at-den.result c.in-Terms.ensures.1 (joined-from level scheme origin) can
    (terms_of c.terms-terms.result.now) c.terms-terms.ensures c.denominator.result c.quotient-multiple.result c.denominator.ensures c.quotient-multiple.ensures
    (g.P.Primvar.numbers c.args.start.now.zero.now) c.requires.alike)

pub sum_of_terms-value-requires-clause-can : goal.sum_of_terms-value-requires-clause-can
sum_of_terms-value-requires-clause-can g c =
    let level = c.args.parent.now.level in
    let scheme = scheme_of c.args.scheme in
    let origin = origin_at c.args.child.now.origins c.args.p in
    let rows = rows_of g.P.Primvar.numbers c.args.values.now in
    let made = rows_of g.P.Primvar.numbers c.args.made.now in
    let places = c.args.places.now in
    let can = subst (CanMake c.args.start.now.width level rows made places (mask_from level scheme origin)) (sym c.den_at-den.ensures) c.requires.can in
    given-can c.args.start.now.width level rows made places (seen_terms c.mask.new.made c.in-Terms.mask) (mask_from level scheme origin) c.den_at-den.result c.in-Terms.ensures.1 (joined-from level scheme origin) can
    (terms_of c.terms-terms.result.now) c.terms-terms.ensures c.denominator.result c.quotient-multiple.result c.denominator.ensures c.quotient-multiple.ensures
    (g.P.Primvar.numbers c.args.start.now.zero.now) c.requires.alike

pub returns-in-Terms-clause-made : goal.returns-in-Terms-clause-made
returns-in-Terms-clause-made g c other =
    let level = c.args.parent.now.level in
    let scheme = scheme_of c.args.scheme in
    let origin = origin_at c.args.child.now.origins c.args.p in
    let rows = rows_of g.P.Primvar.numbers c.args.values.now in
    let made = rows_of g.P.Primvar.numbers c.args.made.now in
    let places = c.args.places.now in
    let can = subst (CanMake c.args.start.now.width level rows made places (mask_from level scheme origin)) (sym c.den_at-den.ensures) c.requires.can in
    subst (IsMade level rows (mask_from level scheme origin))
    (ap (λ n. record { numbers = g.P.Primvar.numbers c.sum_of_terms-value.result; den = n }) c.den_at-den.ensures ∙ sym c.put_value.ensures.there)
    (given-made c.args.start.now.width level rows made places (seen_terms c.mask.new.made c.in-Terms.mask) (mask_from level scheme origin) c.den_at-den.result c.in-Terms.ensures.1 (joined-from level scheme origin) can
    (terms_of c.terms-terms.result.now) c.terms-terms.ensures c.denominator.result c.quotient-multiple.result c.denominator.ensures c.quotient-multiple.ensures
    (g.P.Primvar.numbers c.args.start.now.zero.now) c.requires.alike _ c.sum_of_terms-value.ensures.sum)

pub returns-in-Terms-clause-steps : goal.returns-in-Terms-clause-steps
returns-in-Terms-clause-steps g c =
    let level = c.args.parent.now.level in
    let scheme = scheme_of c.args.scheme in
    let origin = origin_at c.args.child.now.origins c.args.p in
    let rows = rows_of g.P.Primvar.numbers c.args.values.now in
    let made = rows_of g.P.Primvar.numbers c.args.made.now in
    let places = c.args.places.now in
    let can = subst (CanMake c.args.start.now.width level rows made places (mask_from level scheme origin)) (sym c.den_at-den.ensures) c.requires.can in
    count-seen c.terms-terms.result.now _ c.args.steps.now c.sum_of_terms-value.new.steps
    (given-count c.args.start.now.width level rows made places (seen_terms c.mask.new.made c.in-Terms.mask) (mask_from level scheme origin) c.den_at-den.result c.in-Terms.ensures.1 (joined-from level scheme origin) can
    (terms_of c.terms-terms.result.now) c.terms-terms.ensures c.denominator.result c.quotient-multiple.result c.denominator.ensures c.quotient-multiple.ensures
    (g.P.Primvar.numbers c.args.start.now.zero.now) c.requires.alike ∙ other-terms level scheme origin c.in-Terms.ensures.0)
    c.sum_of_terms-value.ensures.steps
