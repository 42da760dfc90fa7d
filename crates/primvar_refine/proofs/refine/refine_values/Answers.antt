use Rattle.std.proofs.Common.{arith, not, ap, length, ◌∙◌, ◌<◌, ◌*◌}
use Rattle.subdiv_model.specs.Channel.{number_bound}
use Rattle.mask_rules.specs.View.{scheme_of}
use Rattle.primvar_refine.specs.Rows.{Row, dens_of}
use Rattle.primvar_refine.specs.View.{rows_of}
use Rattle.primvar_refine.proofs.BoundLemmas.{too-big}
use Rattle.primvar_refine.proofs.FinalLemmas.{empty-refined, empty-terms}
use Rattle.primvar_refine.proofs.PutLemmas.{row-there}
use Rattle.primvar_refine.proofs.WidthLemmas.{within, has-sums, sums-kept}
use Rattle.child_masks.proofs.SurveyLemmas.{survey-count}
use Rattle.primvar_refine.proofs.refine.refine_values.Goals as goal

pub greatest_of-greatest-requires : goal.greatest_of-greatest-requires
greatest_of-greatest-requires g c =
    let count = survey-count c.args.parent.now (scheme_of c.args.scheme) c.args.child.now.origins (dens_of (rows_of g.P.Primvar.numbers c.args.values.now)) c.in_ok-survey.survey c.in_ok-survey.ensures in
    omega (arith, count, c.facts-2.ensures.is.each_point, c.facts-2.ensures.level_is.small.points)

pub returns-then-is_none-clause-refined : goal.returns-then-is_none-clause-refined
returns-then-is_none-clause-refined g c =
    let greatest = c.greatest_of-greatest.result in
    let passed : number_bound < greatest.den * c.least_bound-bound.result = c.times_within.ensures.passed.0 (c.is_none.ensures ∙ ap not c.if-is_none.true) in (
      c.in_ok-survey.ensures.fine,
      rw c.least_bound-bound.ensures.exact at (too-big c.in_ok-survey.survey.dens.items _ greatest.den greatest.place c.least_bound-bound.result c.in_ok-survey.ensures.dens c.in_ok-survey.ensures.short c.greatest_of-greatest.ensures c.least_bound-bound.ensures.short passed),
    )

pub returns-in-empty-clause-refined : goal.returns-in-empty-clause-refined
returns-in-empty-clause-refined g c =
    let rows = rows_of g.P.Primvar.numbers c.args.values.now in
    let greatest = c.greatest_of-greatest.result in
    let kept = within number_bound (greatest.den * c.least_bound-bound.result) _ (c.is_none.ensures ∙ ap not c.if-is_none.false) c.times_within.ensures.passed.1 in
    let sums = has-sums c.in_ok-survey.survey.dens.items _ rows greatest.den c.least_bound-bound.result c.sum_width-width.result c.in_ok-survey.ensures.dens c.in_ok-survey.ensures.short
    c.greatest_of-greatest.ensures.greatest c.least_bound-bound.ensures.exact kept c.sum_width-width.ensures in
    empty-refined c.args.parent.now c.args.child.now (scheme_of c.args.scheme) rows (rows_of g.P.Primvar.numbers c.new.result.items) c.in_ok-survey.survey
    c.facts.ensures c.facts-2.ensures c.requires.child c.in_ok-survey.ensures (sums-kept c.sum_width-width.result _ rows sums) (omega (arith, c.requires.each, c.in-empty.len_below))
    (ap (λ l. length (rows_of g.P.Primvar.numbers l)) c.new.ensures.items)

pub returns-in-empty-clause-taken : goal.returns-in-empty-clause-taken
returns-in-empty-clause-taken g c =
    omega (arith, empty-terms c.args.parent.now c.args.child.now (scheme_of c.args.scheme) c.facts.ensures c.facts-2.ensures c.requires.child (omega (arith, c.requires.each, c.in-empty.len_below)))

pub make_values-requires-clause-sums : goal.make_values-requires-clause-sums
make_values-requires-clause-sums g c =
    let rows = rows_of g.P.Primvar.numbers c.args.values.now in
    let greatest = c.greatest_of-greatest.result in
    let kept = within number_bound (greatest.den * c.least_bound-bound.result) _ (c.is_none.ensures ∙ ap not c.if-is_none.false) c.times_within.ensures.passed.1 in
    has-sums c.in_ok-survey.survey.dens.items _ rows greatest.den c.least_bound-bound.result c.sum_width-width.result c.in_ok-survey.ensures.dens c.in_ok-survey.ensures.short
    c.greatest_of-greatest.ensures.greatest c.least_bound-bound.ensures.exact kept c.sum_width-width.ensures

pub make_values-requires-clause-alike : goal.make_values-requires-clause-alike
make_values-requires-clause-alike g c =
    ap (λ (r : Row). length r.numbers) (row-there g.P.Primvar.numbers c.args.values.now 0 c.first-item.result c.in-len1-up.len_at_least c.first-item.is)
