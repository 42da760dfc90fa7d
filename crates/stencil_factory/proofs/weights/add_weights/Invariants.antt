use Rattle.std.proofs.Common.{◌≡◌, ◌<◌, length}
use Rattle.std.specs.List.{All}
use Rattle.place_sums.specs.Sums.{added_shares}
use Rattle.stencil_factory.specs.Flat.{CanAddAll}
use Rattle.stencil_factory.specs.Joined.{amounts_of, weighing}
use Rattle.stencil_factory.proofs.weights.add_weights.Given as goal

-- Adding the remaining weights to the present sums gives the same as adding all weights to the first sums.
abbrev pub invariant-loop-rest : goal.invariant-loop-rest
invariant-loop-rest g l = record {
  all : added_shares 1 (amounts_of l.dens l.multiple (weighing l.rest)) l.sums ≡ added_shares 1 (amounts_of l.dens l.multiple (weighing l.weights)) l.fn.sums;
  known : All (λ share. share.0 < length l.dens) l.rest;
  can : CanAddAll g.T.Natural.most (amounts_of l.dens l.multiple (weighing l.rest)) l.sums;
}

abbrev pub decreases-loop-rest : goal.decreases-loop-rest
decreases-loop-rest g l = length l.rest
