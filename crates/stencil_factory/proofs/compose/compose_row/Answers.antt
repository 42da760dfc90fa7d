use Rattle.std.proofs.Common.{◌<◌, ◌≤◌, sym, subst}
use Rattle.std.proofs.lemmas.Result.{on_ok_weaker}
use Rattle.subdiv_model.specs.Channel.{number_bound}
use Rattle.child_masks.specs.Found.{ArePointDenominators}
use Rattle.stencil_factory.specs.MaskRows.{mask_at}
use Rattle.stencil_factory.specs.Weights.{AreWeights}
use Rattle.stencil_factory.specs.Composing.{CanAddRows}
use Rattle.stencil_factory.proofs.SurveyLemmas.{point-dens}
use Rattle.stencil_factory.proofs.RowLemmas.{can-add, composed}
use Rattle.stencil_factory.proofs.compose.compose_row.Goals as goal

pub weigh-requires-clause-dens : goal.weigh-requires-clause-dens
weigh-requires-clause-dens g c =
    let level = g.R.RowMasks.level c.args.rows.now in
    subst (ArePointDenominators level) (sym c.denominators-dens.ensures) (point-dens c.args.table.now level c.facts.ensures c.requires.each)

pub sum_rows-requires-clause-can : goal.sum_rows-requires-clause-can
sum_rows-requires-clause-can g c =
    let level = g.R.RowMasks.level c.args.rows.now in
    let table = c.args.table.now in
    let mask = mask_at (g.R.RowMasks.masks c.args.rows.now) c.args.row in
    let weights = c.take_unsorted.new.entries in
    let short = subst (λ n. n ≤ number_bound) c.requires.den c.requires.short in
    let fits = subst (λ n. n ≤ g.T.Natural.most) c.requires.den c.requires.fits in
    let are = subst (λ dens. AreWeights level dens mask weights) c.denominators-dens.ensures (c.in_ok-weigh.ensures.weighed.weights weights c.in_ok-take_unsorted.ensures.entries) in
    subst (CanAddRows g.T.Natural.most table weights) (sym c.requires.controls) (can-add level table mask weights c.facts.ensures c.requires.each are short g.T.Natural.most fits)

pub returns-clause-row : goal.returns-clause-row
returns-clause-row g c =
    let level = g.R.RowMasks.level c.args.rows.now in
    let table = c.args.table.now in
    let mask = mask_at (g.R.RowMasks.masks c.args.rows.now) c.args.row in
    let weights = c.take_unsorted.new.entries in
    let short = subst (λ n. n ≤ number_bound) c.requires.den c.requires.short in
    let positive = subst (λ n. 0 < n) c.requires.den c.requires.positive in
    let are = subst (λ dens. AreWeights level dens mask weights) c.denominators-dens.ensures (c.in_ok-weigh.ensures.weighed.weights weights c.in_ok-take_unsorted.ensures.entries) in
    on_ok_weaker c.sum_rows.result
    (λ entries. composed level table mask weights c.facts.ensures c.requires.each are short (c.sum_rows.new.entries) c.args.den entries c.requires.den positive)
    c.sum_rows.ensures.entries
