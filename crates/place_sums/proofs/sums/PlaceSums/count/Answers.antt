use Rattle.std.proofs.Common.{ℕ, List, refl, ap, ◌∙◌, length}
use Rattle.place_sums.specs.Sums.{shares_from}
use Rattle.place_sums.proofs.TouchedLemmas.{taken-count, taken-listed}
use Rattle.place_sums.proofs.OrderLemmas.{moved-count}
use Rattle.place_sums.proofs.sums.PlaceSums.count.Goals as goal

pub returns : goal.returns
returns g c =
    taken-count g.T.Natural.value c.self.inside.touched.items c.self.inside.touched.items refl c.self.inside.count c.self.inside.sums.items c.self.invariant
    ∙ moved-count _ _ (taken-listed g.T.Natural.value c.self.inside.touched.items c.self.inside.touched.items refl c.self.inside.count c.self.inside.sums.items c.self.invariant)
    ∙ ap (λ (sums : List ℕ). length (shares_from 0 sums)) c.self.view_is
