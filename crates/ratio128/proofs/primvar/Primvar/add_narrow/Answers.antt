use Rattle.std.proofs.Common.{rules}
use Rattle.ratio128.proofs.AmountLemmas.{can-add}
use Rattle.ratio128.proofs.primvar.Primvar.add_narrow.Goals as goal

pub add_with_weight-requires-clause-fits : goal.add_with_weight-requires-clause-fits
add_with_weight-requires-clause-fits g c =
    let fits = can-add c.args.weight (g.Self.Primvar.numbers c.args.self.now) (g.Self.Primvar.numbers c.args.source.now) c.requires.fits in search (rules, fits)
