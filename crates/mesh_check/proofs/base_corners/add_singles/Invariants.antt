use Rattle.std.proofs.Common.{◌≡◌, ◌+◌, nat_eq, length}
use Rattle.subdiv_model.specs.Lists.{places_from}
use Rattle.mesh_check.specs.Base.{infinite, single_corners, with_vertex_tags}
use Rattle.mesh_check.proofs.base_corners.add_singles.Given as goal

-- the tags so far and those of the rest are all tags
abbrev pub invariant-loop-rest : goal.invariant-loop-rest
invariant-loop-rest l = record {
  all : with_vertex_tags (infinite (places_from l.v (λ count. nat_eq count 1) l.rest)) l.builder ≡ with_vertex_tags (infinite (single_corners l.counts)) l.fn.builder;
  points : l.builder.level.point_count ≡ l.fn.builder.level.point_count;
  place : l.v + length l.rest ≡ length l.counts;
}

abbrev pub decreases-loop-rest : goal.decreases-loop-rest
decreases-loop-rest l = length l.rest
