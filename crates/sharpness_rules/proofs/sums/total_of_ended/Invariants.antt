use Rattle.sharpness_rules.specs.Totals.{IsTotal}
use Rattle.sharpness_rules.proofs.EndedLemmas.{values_before}
use Rattle.sharpness_rules.proofs.sums.total_of_ended.Given as goal

-- the total of the vertex and of the edges so far
abbrev pub invariant-loop-i : goal.invariant-loop-i
invariant-loop-i l = IsTotal (values_before l.fn.vertex l.fn.vertex_child l.ring l.ring_child l.i) l.total
