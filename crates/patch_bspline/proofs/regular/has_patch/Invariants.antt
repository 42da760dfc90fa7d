use Rattle.std.proofs.Common.{◌≡◌, true, take}
use Rattle.std.specs.List.{list_all}
use Rattle.subdiv_model.specs.Patch.{is_regular_in_quads}
use Rattle.patch_bspline.proofs.regular.has_patch.Given as goal

-- the corners so far are regular
abbrev pub invariant-loop-v : goal.invariant-loop-v
invariant-loop-v l = list_all (is_regular_in_quads l.level.level) (take l.v-index l.v-items) ≡ true
