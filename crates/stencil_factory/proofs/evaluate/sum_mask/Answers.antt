use Rattle.std.proofs.Common.{◌≡◌, ◌-◌, ◌^◌, ◌*◌, arith, ap, sym, subst, ◌∙◌, length, map, get_or}
use Rattle.std.proofs.lemmas.List.{length-replicate}
use Rattle.subdiv_model.specs.Channel.{number_bound}
use Rattle.subdiv_model.specs.Multiples.{lcm_of_all}
use Rattle.child_masks.specs.Survey.{within_bound}
use Rattle.child_masks.specs.Found.{ArePointDenominators}
use Rattle.stencil_factory.specs.Rows.{support_of, dens_of}
use Rattle.stencil_factory.specs.Joined.{amounts_of, weighing}
use Rattle.stencil_factory.specs.MaskRows.{mask_at}
use Rattle.stencil_factory.proofs.SurveyLemmas.{point-dens}
use Rattle.stencil_factory.proofs.PutLemmas.{put-inside}
use Rattle.stencil_factory.proofs.RowSumLemmas.{length-added_rows}
use Rattle.stencil_factory.proofs.MaskValueLemmas.{product-short, sum-can, sum-row}
use Rattle.stencil_factory.proofs.evaluate.sum_mask.Goals as goal

pub multiple_of-multiple-requires-clause-inside : goal.multiple_of-multiple-requires-clause-inside
multiple_of-multiple-requires-clause-inside g c =
    let level = g.M.PointMasks.level c.args.masks.now in
    put-inside level (mask_at (g.M.PointMasks.masks c.args.masks.now) c.args.row) _ c.in_ok-put.ensures c.weights-weights.result.now c.weights-weights.ensures.terms _
    (ap length c.requires.dens ∙ (point-dens c.args.table.now level c.facts.ensures c.requires.each).count)

pub multiple_of-multiple-requires-clause-positive : goal.multiple_of-multiple-requires-clause-positive
multiple_of-multiple-requires-clause-positive g c =
    let level = g.M.PointMasks.level c.args.masks.now in
    (subst (ArePointDenominators level) (sym c.requires.dens) (point-dens c.args.table.now level c.facts.ensures c.requires.each)).positive

pub multiple_of-multiple-requires-clause-short : goal.multiple_of-multiple-requires-clause-short
multiple_of-multiple-requires-clause-short g c =
    let level = g.M.PointMasks.level c.args.masks.now in
    (subst (ArePointDenominators level) (sym c.requires.dens) (point-dens c.args.table.now level c.facts.ensures c.requires.each)).short

pub add_weighted_rows-requires-clause-known : goal.add_weighted_rows-requires-clause-known
add_weighted_rows-requires-clause-known g c =
    put-inside (g.M.PointMasks.level c.args.masks.now) (mask_at (g.M.PointMasks.masks c.args.masks.now) c.args.row) _ c.in_ok-put.ensures c.weights-weights.result.now c.weights-weights.ensures.terms _ c.requires.each

pub add_weighted_rows-requires-clause-can : goal.add_weighted_rows-requires-clause-can
add_weighted_rows-requires-clause-can g c =
    let raw = c.weights-weights.result.now in
    let m = c.multiple_of-multiple.result in
    let m_is = subst (λ dens. m ≡ within_bound (lcm_of_all (map (λ v. get_or dens v 1) (support_of (weighing raw))))) c.requires.dens c.multiple_of-multiple.ensures in
    sum-can (g.M.PointMasks.level c.args.masks.now) (mask_at (g.M.PointMasks.masks c.args.masks.now) c.args.row) _ c.in_ok-put.ensures raw c.weights-weights.ensures.terms c.args.table.now c.facts.ensures c.requires.each
    c.requires.short m m_is (2 ^ 64 - 1) (omega arith) c.args.buffers.now.sums c.requires.clear

pub add_weighted_rows-requires-clause-short : goal.add_weighted_rows-requires-clause-short
add_weighted_rows-requires-clause-short g c =
    let raw = c.weights-weights.result.now in
    let m = c.multiple_of-multiple.result in
    let m_is = subst (λ dens. m ≡ within_bound (lcm_of_all (map (λ v. get_or dens v 1) (support_of (weighing raw))))) c.requires.dens c.multiple_of-multiple.ensures in
    sum-can (g.M.PointMasks.level c.args.masks.now) (mask_at (g.M.PointMasks.masks c.args.masks.now) c.args.row) _ c.in_ok-put.ensures raw c.weights-weights.ensures.terms c.args.table.now c.facts.ensures c.requires.each
    c.requires.short m m_is number_bound (omega arith) c.args.buffers.now.sums c.requires.clear

pub overflow_mul-result : goal.overflow_mul-result
overflow_mul-result g c =
    let raw = c.weights-weights.result.now in
    let m = c.multiple_of-multiple.result in
    let m_is = subst (λ dens. m ≡ within_bound (lcm_of_all (map (λ v. get_or dens v 1) (support_of (weighing raw))))) c.requires.dens c.multiple_of-multiple.ensures in
    let short = product-short (g.M.PointMasks.level c.args.masks.now) (mask_at (g.M.PointMasks.masks c.args.masks.now) c.args.row) _ c.in_ok-put.ensures raw c.weights-weights.ensures.terms c.args.table.now c.facts.ensures
    c.requires.each c.requires.short m m_is in
    record { fits = omega (arith, ap (λ q. q * m) c.denominator.ensures, short) }

pub returns-clause-row : goal.returns-clause-row
returns-clause-row g c =
    let raw = c.weights-weights.result.now in
    let m = c.multiple_of-multiple.result in
    let m_is = subst (λ dens. m ≡ within_bound (lcm_of_all (map (λ v. get_or dens v 1) (support_of (weighing raw))))) c.requires.dens c.multiple_of-multiple.ensures in
    sum-row (g.M.PointMasks.level c.args.masks.now) (mask_at (g.M.PointMasks.masks c.args.masks.now) c.args.row) _ c.in_ok-put.ensures raw c.weights-weights.ensures.terms c.args.table.now c.facts.ensures c.requires.each
    c.requires.short m m_is _ c.args.buffers.now.sums _ (ap (λ q. q * m) c.denominator.ensures) c.requires.clear c.add_weighted_rows.ensures

pub returns-clause-places : goal.returns-clause-places
returns-clause-places g c =
    let amounts = amounts_of (dens_of c.args.table.now) c.multiple_of-multiple.result (weighing c.weights-weights.result.now) in
    ap length c.add_weighted_rows.ensures ∙ length-added_rows c.args.table.now amounts c.args.buffers.now.sums ∙ ap length c.requires.clear ∙ length-replicate c.args.table.now.controls 0
