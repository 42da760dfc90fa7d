use Rattle.std.proofs.Common.{ap}
use Rattle.stencil_factory.specs.PlaceSet.{Places}
use Rattle.stencil_factory.proofs.PlaceSetLemmas.{marked-read}
use Rattle.stencil_factory.proofs.place_set.PlaceSet.places.Goals as goal

pub returns-clause-inside : goal.returns-clause-inside
returns-clause-inside c =
    marked-read c.self.inside.mark c.self.inside.places.items c.deref.result.now c.self.inside.marks.items c.args.self.now.count c.self.invariant c.deref.ensures.value
    (ap (λ (p : Places). p.count) c.self.view_is)
