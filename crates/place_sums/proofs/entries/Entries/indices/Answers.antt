use Rattle.place_sums.proofs.PairLemmas.{places-read}
use Rattle.place_sums.proofs.entries.Entries.indices.Goals as goal

pub returns : goal.returns
returns g c =
    places-read g.T.Natural.value c.self.inside.indices.items c.self.inside.numerators.items c.self.invariant c.args.self.now c.self.view_is
    c.deref.result.now c.deref.ensures.value
