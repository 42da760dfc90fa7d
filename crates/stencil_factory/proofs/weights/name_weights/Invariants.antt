use Rattle.std.proofs.Common.{◌≡◌, ◌<◌, length}
use Rattle.std.specs.List.{All}
use Rattle.stencil_factory.specs.Rows.{support_of}
use Rattle.stencil_factory.specs.PlaceSet.{with_places}
use Rattle.stencil_factory.specs.Joined.{weighing}
use Rattle.stencil_factory.proofs.weights.name_weights.Given as goal

-- Adding the points of the remaining weights to the set gives the set for all weights.
abbrev pub invariant-loop-rest : goal.invariant-loop-rest
invariant-loop-rest l = record {
  all : with_places (support_of (weighing l.rest)) l.members ≡ with_places (support_of (weighing l.weights)) l.fn.members;
  inside : All (λ share. share.0 < l.members.count) l.rest;
}

abbrev pub decreases-loop-rest : goal.decreases-loop-rest
decreases-loop-rest l = length l.rest
