use Rattle.std.proofs.Common.{take, map}
use Rattle.std.specs.List.{flat_map}
use Rattle.subdiv_model.specs.Sharpness.{semi_values}
use Rattle.sharpness_rules.specs.Totals.{IsTotal}
use Rattle.sharpness_rules.specs.View.{sharpness_of}
use Rattle.sharpness_rules.proofs.sums.total_of_ring.Given as goal

-- the total of the edges so far
abbrev pub invariant-loop-s : goal.invariant-loop-s
invariant-loop-s l = IsTotal (flat_map semi_values (map sharpness_of (take l.s-index l.ring))) l.total
