use Rattle.std.proofs.Common.{◌≡◌, ◌-◌, ◌^◌, ◌*◌, ◌≤◌, arith, ap, sym, subst, ◌∙◌, length, map, get_or, replicate}
use Rattle.std.proofs.lemmas.List.{length-replicate}
use Rattle.subdiv_model.specs.Channel.{number_bound}
use Rattle.subdiv_model.specs.Multiples.{lcm_of_all}
use Rattle.child_masks.specs.Survey.{within_bound}
use Rattle.child_masks.specs.Found.{ArePointDenominators}
use Rattle.stencil_factory.specs.Rows.{support_of, dens_of}
use Rattle.stencil_factory.specs.Composing.{CanAddRows}
use Rattle.stencil_factory.specs.Joined.{amounts_of, weighing}
use Rattle.stencil_factory.specs.MaskRows.{mask_at}
use Rattle.stencil_factory.proofs.SurveyLemmas.{point-dens}
use Rattle.stencil_factory.proofs.PutLemmas.{put-inside}
use Rattle.stencil_factory.proofs.RowSumLemmas.{length-added_rows}
use Rattle.stencil_factory.proofs.NarrowLemmas.{found-product, narrow-can, narrow-row}
use Rattle.stencil_factory.proofs.narrow.compose_row.Goals as goal

pub multiple_of-multiple-requires-clause-inside : goal.multiple_of-multiple-requires-clause-inside
multiple_of-multiple-requires-clause-inside g c =
    let level = g.M.PointMasks.level c.args.masks.now in
    put-inside level (mask_at (g.M.PointMasks.masks c.args.masks.now) c.args.row) _ c.in_ok-put.ensures c.weights-weights.result.now c.weights-weights.ensures.terms _
    (ap length (c.untested-dens.ensures ∙ c.denominators.ensures) ∙ (point-dens c.args.table.now level c.facts.ensures c.requires.each).count)

pub multiple_of-multiple-requires-clause-positive : goal.multiple_of-multiple-requires-clause-positive
multiple_of-multiple-requires-clause-positive g c =
    let level = g.M.PointMasks.level c.args.masks.now in
    (subst (ArePointDenominators level) (sym (c.untested-dens.ensures ∙ c.denominators.ensures)) (point-dens c.args.table.now level c.facts.ensures c.requires.each)).positive

pub multiple_of-multiple-requires-clause-short : goal.multiple_of-multiple-requires-clause-short
multiple_of-multiple-requires-clause-short g c =
    let level = g.M.PointMasks.level c.args.masks.now in
    (subst (ArePointDenominators level) (sym (c.untested-dens.ensures ∙ c.denominators.ensures)) (point-dens c.args.table.now level c.facts.ensures c.requires.each)).short

pub add_weighted_rows-requires-clause-known : goal.add_weighted_rows-requires-clause-known
add_weighted_rows-requires-clause-known g c =
    put-inside (g.M.PointMasks.level c.args.masks.now) (mask_at (g.M.PointMasks.masks c.args.masks.now) c.args.row) _ c.in_ok-put.ensures c.weights-weights.result.now c.weights-weights.ensures.terms _ c.requires.each

pub add_weighted_rows-requires-clause-can : goal.add_weighted_rows-requires-clause-can
add_weighted_rows-requires-clause-can g c =
    let table = c.args.table.now in
    let raw = c.weights-weights.result.now in
    let m = c.multiple_of-multiple.result in
    let found = found-product c.times_within.result c.unwrap_or-den.result _ _ _ c.unwrap_or-den.ensures c.times_within.ensures.product c.times_within.ensures.within c.if-den-eq0.false in
    let m_is = subst (λ dens. m ≡ within_bound (lcm_of_all (map (λ v. get_or dens v 1) (support_of (weighing raw))))) (c.untested-dens.ensures ∙ c.denominators.ensures) c.multiple_of-multiple.ensures in
    subst (CanAddRows (2 ^ 64 - 1) table (amounts_of (dens_of table) m (weighing raw))) (sym c.requires.clear)
    (narrow-can (g.M.PointMasks.level c.args.masks.now) (mask_at (g.M.PointMasks.masks c.args.masks.now) c.args.row) _ c.in_ok-put.ensures raw c.weights-weights.ensures.terms table c.facts.ensures c.requires.each
    m m_is c.unwrap_or-den.result found.0 (found.1 ∙ ap (λ q. q * m) c.denominator.ensures) (omega (arith, found.2)) (2 ^ 64 - 1) found.2)

pub add_weighted_rows-requires-clause-short : goal.add_weighted_rows-requires-clause-short
add_weighted_rows-requires-clause-short g c =
    let table = c.args.table.now in
    let raw = c.weights-weights.result.now in
    let m = c.multiple_of-multiple.result in
    let found = found-product c.times_within.result c.unwrap_or-den.result _ _ _ c.unwrap_or-den.ensures c.times_within.ensures.product c.times_within.ensures.within c.if-den-eq0.false in
    let m_is = subst (λ dens. m ≡ within_bound (lcm_of_all (map (λ v. get_or dens v 1) (support_of (weighing raw))))) (c.untested-dens.ensures ∙ c.denominators.ensures) c.multiple_of-multiple.ensures in
    let short : c.unwrap_or-den.result ≤ number_bound = omega (arith, found.2) in
    subst (CanAddRows number_bound table (amounts_of (dens_of table) m (weighing raw))) (sym c.requires.clear)
    (narrow-can (g.M.PointMasks.level c.args.masks.now) (mask_at (g.M.PointMasks.masks c.args.masks.now) c.args.row) _ c.in_ok-put.ensures raw c.weights-weights.ensures.terms table c.facts.ensures c.requires.each
    m m_is c.unwrap_or-den.result found.0 (found.1 ∙ ap (λ q. q * m) c.denominator.ensures) short number_bound short)

pub returns-clause-row : goal.returns-clause-row
returns-clause-row g c more =
    let table = c.args.table.now in
    let raw = c.weights-weights.result.now in
    let m = c.multiple_of-multiple.result in
    let found = found-product c.times_within.result c.unwrap_or-den.result _ _ _ c.unwrap_or-den.ensures c.times_within.ensures.product c.times_within.ensures.within c.if-den-eq0.false in
    let m_is = subst (λ dens. m ≡ within_bound (lcm_of_all (map (λ v. get_or dens v 1) (support_of (weighing raw))))) (c.untested-dens.ensures ∙ c.denominators.ensures) c.multiple_of-multiple.ensures in
    narrow-row (g.M.PointMasks.level c.args.masks.now) (mask_at (g.M.PointMasks.masks c.args.masks.now) c.args.row) _ c.in_ok-put.ensures raw c.weights-weights.ensures.terms table c.facts.ensures c.requires.each
    m m_is c.unwrap_or-den.result found.0 (found.1 ∙ ap (λ q. q * m) c.denominator.ensures) (omega (arith, found.2))
    c.args.buffers.now.controls _ _ c.requires.clear c.add_weighted_rows.ensures c.in_ok-take.ensures.entries

pub returns-clause-clear : goal.returns-clause-clear
returns-clause-clear g c =
    let amounts = amounts_of (dens_of c.args.table.now) c.multiple_of-multiple.result (weighing c.weights-weights.result.now) in
    c.in_ok-take.ensures.zeros
    ∙ ap (λ n. replicate n 0)
    (ap length c.add_weighted_rows.ensures ∙ length-added_rows c.args.table.now amounts c.args.buffers.now.controls ∙ ap length c.requires.clear ∙ length-replicate c.args.table.now.controls 0)
