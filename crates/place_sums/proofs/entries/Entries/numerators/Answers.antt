use Rattle.place_sums.proofs.PairLemmas.{numbers-read}
use Rattle.place_sums.proofs.entries.Entries.numerators.Goals as goal

pub returns : goal.returns
returns g c =
    numbers-read g.T.Natural.value c.self.inside.indices.items c.self.inside.numerators.items c.self.invariant c.args.self.now c.self.view_is
    c.deref.result.now c.deref.ensures.value
