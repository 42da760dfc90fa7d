use Rattle.std.proofs.Common.{◌≡◌, ◌<◌, length}
use Rattle.std.specs.List.{All}
use Rattle.stencil_factory.specs.PlaceSet.{with_places}
use Rattle.stencil_factory.proofs.place_set.PlaceSet.add_all.Given as goal

-- Adding the remaining places to the set gives the set for all places.
abbrev pub invariant-loop-rest : goal.invariant-loop-rest
invariant-loop-rest l = record {
  all : with_places l.rest l.self ≡ with_places l.places l.fn.self;
  inside : All (λ place. place < l.self.count) l.rest;
}

abbrev pub decreases-loop-rest : goal.decreases-loop-rest
decreases-loop-rest l = length l.rest
