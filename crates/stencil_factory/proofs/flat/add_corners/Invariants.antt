use Rattle.std.proofs.Common.{◌≡◌, ◌<◌, length}
use Rattle.std.specs.List.{All}
use Rattle.place_sums.specs.Sums.{added_shares}
use Rattle.stencil_factory.specs.Flat.{corner_shares, CanAddAll}
use Rattle.stencil_factory.proofs.flat.add_corners.Given as goal

-- Adding the remaining corners to the present sums gives the same as adding all corners to the first sums.
abbrev pub invariant-loop-rest : goal.invariant-loop-rest
invariant-loop-rest g l = record {
  within : All (λ v. v < length l.dens) l.rest;
  can : CanAddAll g.T.Natural.most (corner_shares l.dens l.factor l.multiple l.rest) l.sums;
  same : added_shares 1 (corner_shares l.dens l.factor l.multiple l.rest) l.sums ≡ added_shares 1 (corner_shares l.dens l.factor l.multiple l.corners) l.fn.sums;
}

abbrev pub decreases-loop-rest : goal.decreases-loop-rest
decreases-loop-rest g l = length l.rest
