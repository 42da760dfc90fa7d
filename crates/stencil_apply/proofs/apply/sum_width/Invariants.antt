use Rattle.std.proofs.Common.{◌≡◌, map, take}
use Rattle.stencil_apply.specs.Means.{greatest_of_all}
use Rattle.stencil_apply.proofs.apply.sum_width.Given as goal

-- the greatest amount so far
abbrev pub invariant-loop-control : goal.invariant-loop-control
invariant-loop-control g l = l.greatest ≡ greatest_of_all (map g.P.Primvar.numbers (take l.control-index l.controls))
