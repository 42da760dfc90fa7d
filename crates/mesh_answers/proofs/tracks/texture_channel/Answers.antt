use Rattle.std.proofs.Common.{◌∙◌}
use Rattle.far_words.specs.View.{uv_of_code}
use Rattle.mesh_answers.proofs.RefusalLemmas.{is-manifold}
use Rattle.mesh_answers.proofs.TextureLemmas.{cut-base, points-are, short-texture, texture-channel}
use Rattle.mesh_answers.proofs.tracks.texture_channel.Goals as goal

pub new-requires-clause-base : goal.new-requires-clause-base
new-requires-clause-base c =
    cut-base c.args.mesh.now (uv_of_code c.args.uv) c.args.channel c.into_parts-level.result.0 c.requires.cut c.into_parts-level.ensures.level
    c.facts.ensures (is-manifold c.args.mesh.now c.requires.manifold)

pub new-requires-clause-short : goal.new-requires-clause-short
new-requires-clause-short c =
    short-texture c.args.mesh.now (uv_of_code c.args.uv) c.args.channel c.into_parts-level.result.0 c.requires.cut c.into_parts-level.ensures.level
    c.deref.result.now (c.deref.ensures.value ∙ c.into_parts-level.ensures.points)
    c.greatest_of_values-greatest.result c.texture_scale.result c.greatest_of_values-greatest.ensures c.texture_scale.ensures c.facts.ensures

pub returns : goal.returns
returns c = (
  c.requires.textured,
  c.new.ensures
      ∙ texture-channel c.args.mesh.now (uv_of_code c.args.uv) c.args.channel c.into_parts-level.result.0 c.requires.cut c.into_parts-level.ensures.level
      c.deref.result.now (c.deref.ensures.value ∙ c.into_parts-level.ensures.points)
      c.greatest_of_values-greatest.result c.texture_scale.result c.greatest_of_values-greatest.ensures c.texture_scale.ensures _ c.scheme_of.ensures,
  points-are c.args.mesh.now (uv_of_code c.args.uv) c.args.channel c.into_parts-level.result.0 c.requires.cut c.into_parts-level.ensures.level _ c.into_parts-level.ensures.points,
)
