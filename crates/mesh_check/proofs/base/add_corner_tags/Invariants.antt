use Rattle.std.proofs.Common.{◌≡◌, nat_lt, true, length, map}
use Rattle.std.specs.List.{list_all}
use Rattle.raw_mesh.specs.View.{corner_tag_of}
use Rattle.mesh_check.specs.Base.{with_vertex_tags}
use Rattle.mesh_check.proofs.base.add_corner_tags.Given as goal

-- the tags so far and those of the rest are all tags
abbrev pub invariant-loop-rest : goal.invariant-loop-rest
invariant-loop-rest l = record {
  all : with_vertex_tags (map corner_tag_of l.rest) l.builder ≡ with_vertex_tags (map corner_tag_of l.tags) l.fn.builder;
  points : list_all (λ tag. nat_lt tag.vertex l.builder.level.point_count) l.rest ≡ true;
}

abbrev pub decreases-loop-rest : goal.decreases-loop-rest
decreases-loop-rest l = length l.rest
