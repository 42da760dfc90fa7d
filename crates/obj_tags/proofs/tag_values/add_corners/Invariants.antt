use Rattle.std.proofs.Common.{◌≡◌, ◌++◌, length, map, take, zip}
use Rattle.subdiv_model.specs.ObjTag.{for_each}
use Rattle.sharpness_rules.specs.View.{sharpness_of}
use Rattle.raw_mesh.specs.View.{corner_tag_of}
use Rattle.obj_tags.proofs.tag_values.add_corners.Given as goal

-- the vertices so far
abbrev pub invariant-loop-i : goal.invariant-loop-i
invariant-loop-i l = map corner_tag_of l.corners.items ≡ map corner_tag_of l.fn.corners.items ++ zip (take l.i l.vertices) (take l.i (for_each (length l.vertices) (map sharpness_of l.values)))
