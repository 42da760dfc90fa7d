use Rattle.std.proofs.Common.{◌≡◌}
use Rattle.uniform_refiner.specs.Put.{with_child_edges}
use Rattle.uniform_refiner.proofs.edges.put_edges.Given as goal

-- the edges so far are put
abbrev pub invariant-loop-e : goal.invariant-loop-e
invariant-loop-e l = l.rows ≡ with_child_edges l.level.level l.e l.fn.rows
