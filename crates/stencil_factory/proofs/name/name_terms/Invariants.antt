use Rattle.std.proofs.Common.{◌≡◌, length}
use Rattle.std.specs.List.{AllByRecursion}
use Rattle.mask_rules.specs.View.{terms_of}
use Rattle.stencil_factory.specs.Named.{with_terms, CanNameTerm}
use Rattle.stencil_factory.proofs.name.name_terms.Given as goal

-- Adding the points of the remaining terms to the set gives the set for all terms.
abbrev pub invariant-loop-rest : goal.invariant-loop-rest
invariant-loop-rest l = record {
  can : AllByRecursion (CanNameTerm l.parent.level l.members.count) (terms_of l.rest);
  all : with_terms l.parent.level (terms_of l.rest) l.members ≡ with_terms l.parent.level (terms_of l.terms) l.fn.members;
}

abbrev pub decreases-loop-rest : goal.decreases-loop-rest
decreases-loop-rest l = length l.rest
