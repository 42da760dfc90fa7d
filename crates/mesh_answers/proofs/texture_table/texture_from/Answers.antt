use Rattle.far_words.specs.View.{uv_of_code}
use Rattle.mesh_answers.proofs.TextureTableLemmas.{texture-with-values}
use Rattle.mesh_answers.proofs.texture_table.texture_from.Goals as goal

pub returns-clause-composed : goal.returns-clause-composed
returns-clause-composed g c =
    texture-with-values (uv_of_code c.args.uv) c.args.depth c.args.mesh.now c.args.texture.values c.requires.base.texture_is.2
    c.table_of_texture-composed.result c.with_values.result c.with_values.ensures c.table_of_texture-composed.ensures.composed
