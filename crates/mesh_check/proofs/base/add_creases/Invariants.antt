use Rattle.std.proofs.Common.{◌≡◌, length, map}
use Rattle.raw_mesh.specs.View.{crease_of}
use Rattle.mesh_check.specs.Base.{with_edge_tags}
use Rattle.mesh_check.proofs.base.add_creases.Given as goal

-- the tags so far and those of the rest are all tags
abbrev pub invariant-loop-rest : goal.invariant-loop-rest
invariant-loop-rest l = record {
  all : with_edge_tags (map crease_of l.rest) l.builder ≡ with_edge_tags (map crease_of l.creases) l.fn.builder;
  polygons : l.builder.level.polygons ≡ l.fn.builder.level.polygons;
}

abbrev pub decreases-loop-rest : goal.decreases-loop-rest
decreases-loop-rest l = length l.rest
