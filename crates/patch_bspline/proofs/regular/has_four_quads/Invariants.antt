use Rattle.std.proofs.Common.{◌≡◌, true, take}
use Rattle.std.specs.List.{list_all}
use Rattle.subdiv_model.specs.Patch.{is_quad}
use Rattle.patch_bspline.proofs.regular.has_four_quads.Given as goal

-- the faces so far are quads
abbrev pub invariant-loop-face : goal.invariant-loop-face
invariant-loop-face l = list_all (is_quad l.level.level) (take l.face-index l.faces) ≡ true
