use Rattle.std.proofs.Common.{◌≡◌, take, zip}
use Rattle.std.specs.List.{flat_map}
use Rattle.subdiv_model.specs.Patch.{row_terms}
use Rattle.patch_bspline.specs.Around.{with_terms}
use Rattle.patch_bspline.proofs.weigh.put_place.Given as goal

-- the rows so far
abbrev pub invariant-loop-k : goal.invariant-loop-k
invariant-loop-k l = l.weights ≡ with_terms l.initial.weights (flat_map (row_terms l.along) (take l.k (zip l.across l.points)))
