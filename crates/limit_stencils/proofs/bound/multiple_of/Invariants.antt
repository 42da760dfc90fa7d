use Rattle.std.proofs.Common.{◌≡◌, take}
use Rattle.std.specs.List.{fold}
use Rattle.subdiv_model.specs.Multiples.{lcm_of}
use Rattle.child_masks.specs.Survey.{within_bound}
use Rattle.limit_stencils.proofs.bound.multiple_of.Given as goal

-- the least common multiple of the denominators so far
abbrev pub invariant-loop-den : goal.invariant-loop-den
invariant-loop-den l = l.multiple ≡ within_bound (fold lcm_of 1 (take l.den-index l.dens))
