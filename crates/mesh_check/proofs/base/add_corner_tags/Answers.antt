use Rattle.std.proofs.Common.{map, nat_lt, ap, sym, ◌∙◌}
use Rattle.std.specs.List.{list_all}
use Rattle.std.proofs.lemmas.Bool.{and_parts}
use Rattle.raw_mesh.specs.declared.tags.CornerTag.{CornerTag}
use Rattle.raw_mesh.specs.View.{corner_tag_of}
use Rattle.point_fans.specs.Built.{Built}
use Rattle.mesh_check.specs.Base.{with_vertex_tags}
use Rattle.level_builder.proofs.RestLemmas.{at-item, at-none, others}
use Rattle.mesh_check.proofs.base.add_corner_tags.Goals as goal

pub loop-rest-preserved : goal.loop-rest-preserved
loop-rest-preserved c =
    let rest = c.loop-rest.rest.now in
    record {
      all =
          ap (with_vertex_tags (map corner_tag_of (others rest))) c.add_sharp_vertex.ensures
          ∙ sym (at-item (λ ts. with_vertex_tags (map corner_tag_of ts) c.loop-rest.builder) rest c.tag-item.result c.in-len1-up.len_at_least c.tag-item.is) ∙ c.loop-rest.invariant.all;
      points =
          ap (λ (b : Built). list_all (λ (tag : CornerTag). nat_lt tag.vertex b.level.point_count) (others rest)) c.add_sharp_vertex.ensures
          ∙ (and_parts _ _ (sym (at-item (list_all (λ (tag : CornerTag). nat_lt tag.vertex c.loop-rest.builder.level.point_count)) rest c.tag-item.result c.in-len1-up.len_at_least c.tag-item.is) ∙ c.loop-rest.invariant.points)).1;
    }

pub returns : goal.returns
returns c = sym (at-none (λ ts. with_vertex_tags (map corner_tag_of ts) c.loop-rest.builder) c.loop-rest.rest.now c.in_default.len_below) ∙ c.loop-rest.invariant.all
