use Rattle.std.proofs.Common.{◌≡◌, length, true}
use Rattle.std.specs.List.{list_all, list_any}
use Rattle.subdiv_model.specs.Polygons.{same_edge}
use Rattle.subdiv_model.specs.Edges.{edges_of}
use Rattle.mesh_check.specs.Base.{with_edge_tags, infinite}
use Rattle.mesh_check.proofs.base.add_boundary.Given as goal

-- the tags so far and those of the rest are all tags
abbrev pub invariant-loop-rest : goal.invariant-loop-rest
invariant-loop-rest l = record {
  all : with_edge_tags (infinite l.rest) l.builder ≡ with_edge_tags (infinite l.boundary) l.fn.builder;
  edges : list_all (λ s. list_any (same_edge s) (edges_of l.builder.level.polygons)) l.rest ≡ true;
}

abbrev pub decreases-loop-rest : goal.decreases-loop-rest
decreases-loop-rest l = length l.rest
