use Rattle.std.proofs.Common.{◌≡◌, ◌++◌, length, map}
use Rattle.mesh_check.specs.View.{mesh_fault_of}
use Rattle.mesh_check.specs.Listed.{fault_of_edge}
use Rattle.mesh_check.proofs.edge_list.put_edges.Given as goal

-- the faults so far and those of the rest are all
abbrev pub invariant-loop-rest : goal.invariant-loop-rest
invariant-loop-rest l =
    map mesh_fault_of l.faults.items ++ map (fault_of_edge l.crowded) l.rest ≡ map mesh_fault_of l.fn.faults.items ++ map (fault_of_edge l.crowded) l.edges

abbrev pub decreases-loop-rest : goal.decreases-loop-rest
decreases-loop-rest l = length l.rest
