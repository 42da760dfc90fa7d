use Rattle.std.proofs.Common.{◌≡◌, ◌++◌, not, length, map}
use Rattle.std.specs.List.{filter}
use Rattle.subdiv_model.specs.Manifold.{has_one_fan}
use Rattle.subdiv_model.specs.MeshFault.{SplitVertex, split_vertices}
use Rattle.mesh_check.specs.View.{mesh_fault_of}
use Rattle.level_builder.specs.Keys.{each_once}
use Rattle.mesh_check.specs.Groups.{vertices, AreGroups}
use Rattle.mesh_check.proofs.split.put_split_vertices.Given as goal

-- the rest of the corners are groups; the faults so far, and those of the rest of the vertices, are all
abbrev pub invariant-loop-rest : goal.invariant-loop-rest
invariant-loop-rest l = record {
  groups : AreGroups l.raw.faces l.rest;
  put : map mesh_fault_of l.faults.items ++ map SplitVertex (filter (λ v. not (has_one_fan l.raw.faces v)) (each_once (vertices l.rest)))
      ≡ map mesh_fault_of l.fn.faults.items ++ map SplitVertex (split_vertices (length l.raw.points) l.raw.faces);
}

abbrev pub decreases-loop-rest : goal.decreases-loop-rest
decreases-loop-rest l = length l.rest
