use Rattle.far_words.specs.View.{uv_of_code}
use Rattle.array_answers.proofs.RowLemmas.{array-texture}
use Rattle.array_answers.proofs.textures.texture_counted.Goals as goal

pub returns-in-Ok : goal.returns-in-Ok
returns-in-Ok g c =
    array-texture c.args.arrays.now c.in-Ok.mesh c.in-Ok.ensures (uv_of_code c.args.uv) c.args.depth c.texture_of_mesh-texture.result c.with_common.result
    c.with_common.ensures c.texture_of_mesh-texture.ensures
