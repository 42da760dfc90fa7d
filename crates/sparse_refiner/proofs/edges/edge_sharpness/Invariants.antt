use Rattle.std.proofs.Common.{◌≡◌, map, take}
use Rattle.sharpness_rules.specs.View.{sharpness_of}
use Rattle.sparse_refiner.specs.Tables.{slot_sharpness}
use Rattle.sparse_refiner.proofs.edges.edge_sharpness.Given as goal

-- the edges so far are put
abbrev pub invariant-loop-e : goal.invariant-loop-e
invariant-loop-e l = map sharpness_of l.values.items ≡ map (slot_sharpness (map sharpness_of l.halves)) (take l.e l.edges.slots)
