use Rattle.std.proofs.Common.{◌≡◌, length}
use Rattle.std.specs.List.{AllByRecursion}
use Rattle.mask_rules.specs.View.{terms_of}
use Rattle.place_sums.specs.Sums.{added_shares}
use Rattle.stencil_factory.specs.Flat.{flat_shares, CanAddAll, CanWeighTerm}
use Rattle.stencil_factory.proofs.flat.add_terms.Given as goal

-- Adding the remaining terms to the present sums gives the same as adding all terms to the first sums.
abbrev pub invariant-loop-rest : goal.invariant-loop-rest
invariant-loop-rest g l = record {
  weigh : AllByRecursion (CanWeighTerm l.parent.level l.dens l.faces l.multiple) (terms_of l.rest);
  can : CanAddAll g.T.Natural.most (flat_shares l.parent.level l.dens l.faces l.multiple (terms_of l.rest)) l.sums;
  same : added_shares 1 (flat_shares l.parent.level l.dens l.faces l.multiple (terms_of l.rest)) l.sums
      ≡ added_shares 1 (flat_shares l.parent.level l.dens l.faces l.multiple (terms_of l.terms)) l.fn.sums;
}

abbrev pub decreases-loop-rest : goal.decreases-loop-rest
decreases-loop-rest g l = length l.rest
