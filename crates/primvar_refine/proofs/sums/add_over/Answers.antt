use Rattle.std.proofs.Common.{◌*◌, ◌/◌, rules}
use Rattle.primvar_refine.proofs.WidthLemmas.{can-add-narrow, can-add-wide}
use Rattle.primvar_refine.proofs.sums.add_over.Goals as goal

pub add_narrow-requires-clause-fits : goal.add_narrow-requires-clause-fits
add_narrow-requires-clause-fits g c =
    can-add-narrow c.args.width (c.args.weight * (c.args.multiple / c.args.source.now.den)) c.weight_over-factor.result c.weight_over-factor.ensures
    (g.P.Primvar.numbers c.args.sum.now) (g.P.Primvar.numbers c.args.source.now.value) c.requires.fits c.in-Narrow.is

pub add_with_weight-requires-clause-fits : goal.add_with_weight-requires-clause-fits
add_with_weight-requires-clause-fits g c =
    let fits = can-add-wide c.args.width (c.args.weight * (c.args.multiple / c.args.source.now.den)) c.weight_over-factor.result c.weight_over-factor.ensures
    (g.P.Primvar.numbers c.args.sum.now) (g.P.Primvar.numbers c.args.source.now.value) c.requires.fits in search (rules, fits)
