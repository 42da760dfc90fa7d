use Rattle.std.proofs.Common.{get_or, map, take}
use Rattle.std.specs.List.{fold}
use Rattle.subdiv_model.specs.Multiples.{lcm_of}
use Rattle.stencil_factory.specs.Rows.{support_of}
use Rattle.stencil_factory.specs.Joined.{weighing}
use Rattle.stencil_factory.specs.Powers.{IsPowerWithin}
use Rattle.stencil_factory.proofs.weights.greatest_of_powers.Given as goal

-- `greatest` is the least common multiple for the weights before this one, and a power of two.
abbrev pub invariant-loop-weight : goal.invariant-loop-weight
invariant-loop-weight l = IsPowerWithin l.greatest (fold lcm_of 1 (map (λ v. get_or l.dens v 1) (support_of (weighing (take l.weight-index l.weights)))))
