use Rattle.std.proofs.Common.{rules}
use Rattle.stencil_factory.proofs.PlaceSetLemmas.{marked-step, marked-places}
use Rattle.stencil_factory.proofs.place_set.PlaceSet.add.Goals as goal

pub invariant_of-self-2 : goal.invariant_of-self-2
invariant_of-self-2 c =
    marked-step c.self.inside.mark c.args.place c.index-own.result.now c.self.inside.places.items c.note.new.places.items c.self.inside.marks.items (search rules) (search rules) c.in_ok-note.ensures.noted c.self.invariant

pub returns : goal.returns
returns c =
    marked-places c.self.inside.mark c.args.place c.index-own.result.now c.self.inside.places.items c.note.new.places.items c.self.inside.marks.items c.args.self.now
    (search rules) (search rules) c.in_ok-note.ensures.noted c.self.invariant (search rules)
