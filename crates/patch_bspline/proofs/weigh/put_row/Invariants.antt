use Rattle.std.proofs.Common.{◌≡◌, take}
use Rattle.subdiv_model.specs.Patch.{row_terms}
use Rattle.patch_bspline.specs.Around.{with_terms}
use Rattle.patch_bspline.proofs.weigh.put_row.Given as goal

-- the points so far
abbrev pub invariant-loop-i : goal.invariant-loop-i
invariant-loop-i l = l.weights ≡ with_terms l.initial.weights (take l.i (row_terms l.along (l.across, l.row)))
