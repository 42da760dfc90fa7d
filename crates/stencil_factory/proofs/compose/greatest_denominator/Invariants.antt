use Rattle.std.proofs.Common.{◌≡◌, max, take}
use Rattle.std.specs.List.{fold}
use Rattle.stencil_factory.proofs.compose.greatest_denominator.Given as goal

-- `greatest` is the greatest of the denominators before this one.
abbrev pub invariant-loop-den : goal.invariant-loop-den
invariant-loop-den l = l.greatest ≡ fold max 1 (take l.den-index l.dens)
