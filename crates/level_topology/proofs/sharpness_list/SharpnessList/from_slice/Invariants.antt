use Rattle.std.proofs.Common.{◌≡◌, take, map, length}
use Rattle.sharpness_rules.specs.View.{sharpness_of}
use Rattle.level_topology.specs.Coded.{kept}
use Rattle.level_topology.proofs.sharpness_list.SharpnessList.from_slice.Given as goal

-- those so far are kept
abbrev pub invariant-loop-i : goal.invariant-loop-i
invariant-loop-i l = l.sharps ≡ kept (map sharpness_of (take l.i l.values)) (length l.values)
