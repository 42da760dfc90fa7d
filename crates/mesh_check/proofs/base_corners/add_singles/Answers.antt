use Rattle.std.proofs.Common.{arith, nat_eq, sym, ◌∙◌}
use Rattle.subdiv_model.specs.Lists.{places_from}
use Rattle.mesh_check.specs.Base.{with_vertex_tags, infinite}
use Rattle.mesh_check.proofs.BaseTagLemmas.{single-put, single-points}
use Rattle.level_builder.proofs.RestLemmas.{at-none, others-length}
use Rattle.mesh_check.proofs.base_corners.add_singles.Goals as goal

pub loop-rest-preserved : goal.loop-rest-preserved
loop-rest-preserved c = record {
  all = single-put c.loop-rest.rest.now c.loop-rest.v c.loop-rest.builder _ c.add_single.ensures _ c.in-len1-up.len_at_least c.loop-rest.invariant.all;
  points = single-points c.loop-rest.rest.now c.loop-rest.v c.loop-rest.builder _ c.add_single.ensures ∙ c.loop-rest.invariant.points;
  place = omega (arith, others-length c.loop-rest.rest.now c.in-len1-up.len_at_least, c.loop-rest.invariant.place);
}

pub returns : goal.returns
returns c = sym (at-none (λ ns. with_vertex_tags (infinite (places_from c.loop-rest.v (λ count. nat_eq count 1) ns)) c.loop-rest.builder) c.loop-rest.rest.now c.in_default.len_below) ∙ c.loop-rest.invariant.all
