use Rattle.std.proofs.Common.{◌≡◌, not, length}
use Rattle.std.specs.List.{find}
use Rattle.subdiv_model.specs.Lists.{first_of}
use Rattle.subdiv_model.specs.Manifold.{has_one_fan}
use Rattle.subdiv_model.specs.MeshFault.{split_vertices}
use Rattle.mesh_check.specs.Groups.{vertices, AreGroups}
use Rattle.mesh_check.proofs.split.split_vertex.Given as goal

-- the corners from here on are groups, and the first vertex of these that is not one fan decides
abbrev pub invariant-loop-rest : goal.invariant-loop-rest
invariant-loop-rest l = record {
  groups : AreGroups l.raw.faces l.rest;
  decides : find (λ v. not (has_one_fan l.raw.faces v)) (vertices l.rest) ≡ first_of (split_vertices (length l.raw.points) l.raw.faces);
}

abbrev pub decreases-loop-rest : goal.decreases-loop-rest
decreases-loop-rest l = length l.rest
