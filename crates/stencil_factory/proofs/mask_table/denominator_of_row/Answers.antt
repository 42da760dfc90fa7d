use Rattle.std.proofs.Common.{◌*◌, ap, sym, subst, ◌∙◌, map, get_or, length}
use Rattle.subdiv_model.specs.Multiples.{lcm_of_all}
use Rattle.subdiv_model.specs.Refined.{mask_denominator, source_denominator}
use Rattle.child_masks.specs.Survey.{within_bound}
use Rattle.child_masks.specs.Found.{ArePointDenominators}
use Rattle.child_masks.proofs.WithinLemmas.{scaled-within}
use Rattle.stencil_factory.specs.Rows.{support_of}
use Rattle.stencil_factory.specs.MaskRows.{mask_at}
use Rattle.stencil_factory.specs.Joined.{weighing}
use Rattle.stencil_factory.proofs.SurveyLemmas.{point-dens}
use Rattle.stencil_factory.proofs.PutLemmas.{put-inside, put-positive, put-den, multiple-positive, den-positive}
use Rattle.stencil_factory.proofs.mask_table.denominator_of_row.Goals as goal

pub multiple_of_weights-multiple-requires-clause-inside : goal.multiple_of_weights-multiple-requires-clause-inside
multiple_of_weights-multiple-requires-clause-inside g c =
    let level = g.M.PointMasks.level c.args.masks.now in
    put-inside level (mask_at (g.M.PointMasks.masks c.args.masks.now) c.args.row) _ c.in_ok-put.ensures c.weights.result.now c.weights.ensures.terms _
    (ap length c.denominators.ensures ∙ (point-dens c.args.table.now level c.facts.ensures c.requires.each).count)

pub multiple_of_weights-multiple-requires-clause-positive : goal.multiple_of_weights-multiple-requires-clause-positive
multiple_of_weights-multiple-requires-clause-positive g c =
    let level = g.M.PointMasks.level c.args.masks.now in
    (subst (ArePointDenominators level) (sym c.denominators.ensures) (point-dens c.args.table.now level c.facts.ensures c.requires.each)).positive

pub multiple_of_weights-multiple-requires-clause-short : goal.multiple_of_weights-multiple-requires-clause-short
multiple_of_weights-multiple-requires-clause-short g c =
    let level = g.M.PointMasks.level c.args.masks.now in
    (subst (ArePointDenominators level) (sym c.denominators.ensures) (point-dens c.args.table.now level c.facts.ensures c.requires.each)).short

pub returns-clause-positive : goal.returns-clause-positive
returns-clause-positive g c =
    let level = g.M.PointMasks.level c.args.masks.now in
    den-positive level (mask_at (g.M.PointMasks.masks c.args.masks.now) c.args.row) _ c.in_ok-put.ensures c.weights.result.now c.weights.ensures.terms _
    (point-dens c.args.table.now level c.facts.ensures c.requires.each)

pub returns-clause-den : goal.returns-clause-den
returns-clause-den g c =
    let level = g.M.PointMasks.level c.args.masks.now in
    let mask = mask_at (g.M.PointMasks.masks c.args.masks.now) c.args.row in
    let are = c.in_ok-put.ensures in
    let raw = c.weights.result.now in
    let dens = c.denominators.result.now in
    let points = subst (ArePointDenominators level) (sym c.denominators.ensures) (point-dens c.args.table.now level c.facts.ensures c.requires.each) in
    let some = multiple-positive level mask _ are raw c.weights.ensures.terms dens points in
    c.unwrap_or-den.ensures
    ∙ scaled-within _ _ _ _ c.times_within.ensures.passed c.times_within.ensures.product c.times_within.ensures.within
    (rw c.denominator.ensures (put-positive level mask _ are raw c.weights.ensures.terms)) some c.multiple_of_weights-multiple.ensures
    ∙ ap within_bound
    (ap (λ q. q * lcm_of_all (map (λ v. get_or dens v 1) (support_of (weighing raw)))) c.denominator.ensures ∙ put-den level mask _ are raw c.weights.ensures.terms dens points
    ∙ ap (λ ds. mask_denominator (source_denominator level ds) mask) c.denominators.ensures)
