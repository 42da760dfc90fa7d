use Rattle.std.proofs.Common.{rules}
use Rattle.stencil_factory.proofs.PlaceSetLemmas.{marked-start}
use Rattle.stencil_factory.proofs.place_set.PlaceSet.new.Goals as goal

pub invariant_of-result : goal.invariant_of-result
invariant_of-result c = marked-start c.in_ok-with_capacity.field-0.items c.in_ok-vec.field-0.items c.args.count c.in_ok-with_capacity.ensures.items (search rules)
