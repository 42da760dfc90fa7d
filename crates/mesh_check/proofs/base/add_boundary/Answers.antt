use Rattle.std.proofs.Common.{sym, ◌∙◌}
use Rattle.mesh_check.specs.Base.{with_edge_tags, infinite}
use Rattle.mesh_check.proofs.BaseTagLemmas.{side-put, side-edges}
use Rattle.level_builder.proofs.RestLemmas.{at-none}
use Rattle.mesh_check.proofs.base.add_boundary.Goals as goal

pub loop-rest-preserved : goal.loop-rest-preserved
loop-rest-preserved c = record {
  all = side-put c.loop-rest.rest.now c.loop-rest.builder _ c.in-len1-up.len_at_least c.loop-rest.invariant.edges c.add_sharp_edge.ensures _ c.loop-rest.invariant.all;
  edges = side-edges c.loop-rest.rest.now c.loop-rest.builder _ c.in-len1-up.len_at_least c.loop-rest.invariant.edges c.add_sharp_edge.ensures;
}

pub returns : goal.returns
returns c = sym (at-none (λ ts. with_edge_tags (infinite ts) c.loop-rest.builder) c.loop-rest.rest.now c.in_default.len_below) ∙ c.loop-rest.invariant.all
