use Rattle.std.proofs.Common.{map, ap, sym, ◌∙◌}
use Rattle.raw_mesh.specs.View.{crease_of}
use Rattle.mesh_check.specs.Base.{with_edge_tags}
use Rattle.mesh_check.proofs.BaseTagLemmas.{tag-polygons}
use Rattle.level_builder.proofs.RestLemmas.{at-item, at-none, others}
use Rattle.mesh_check.proofs.base.add_creases.Goals as goal

pub loop-rest-preserved : goal.loop-rest-preserved
loop-rest-preserved c = record {
  all =
      ap (with_edge_tags (map crease_of (others c.loop-rest.rest.now))) c.add_crease.ensures
      ∙ sym (at-item (λ ts. with_edge_tags (map crease_of ts) c.loop-rest.builder) c.loop-rest.rest.now c.crease-item.result c.in-len1-up.len_at_least c.crease-item.is) ∙ c.loop-rest.invariant.all;
  polygons = tag-polygons (crease_of c.crease-item.result) c.loop-rest.builder _ c.add_crease.ensures ∙ c.loop-rest.invariant.polygons;
}

pub returns : goal.returns
returns c = sym (at-none (λ ts. with_edge_tags (map crease_of ts) c.loop-rest.builder) c.loop-rest.rest.now c.in_default.len_below) ∙ c.loop-rest.invariant.all
