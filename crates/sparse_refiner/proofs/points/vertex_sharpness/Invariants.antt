use Rattle.std.proofs.Common.{◌≡◌, map, take}
use Rattle.sharpness_rules.specs.View.{sharpness_of}
use Rattle.sparse_refiner.specs.Tables.{child_sharpness}
use Rattle.sparse_refiner.proofs.points.vertex_sharpness.Given as goal

-- the points so far are put
abbrev pub invariant-loop-i : goal.invariant-loop-i
invariant-loop-i l = map sharpness_of l.values.items ≡ map (child_sharpness l.level.level) (take l.i l.names)
