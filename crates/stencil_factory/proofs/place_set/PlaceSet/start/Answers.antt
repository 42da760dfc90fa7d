use Rattle.std.proofs.Common.{◌+◌, sym, subst}
use Rattle.stencil_factory.specs.PlaceSet.{AreMarked}
use Rattle.stencil_factory.proofs.PlaceSetLemmas.{marked-none}
use Rattle.stencil_factory.proofs.place_set.PlaceSet.start.Goals as goal

pub invariant_of-self : goal.invariant_of-self
invariant_of-self c =
    subst (λ l. AreMarked (c.self.inside.mark + 1) l c.self.inside.marks.items) (sym c.clear.ensures.items)
    (marked-none c.self.inside.mark c.self.inside.places.items c.self.inside.marks.items c.self.invariant)
