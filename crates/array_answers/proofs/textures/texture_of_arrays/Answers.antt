use Rattle.far_words.specs.View.{uv_of_code}
use Rattle.array_answers.proofs.RowLemmas.{asked-texture}
use Rattle.array_answers.proofs.textures.texture_of_arrays.Goals as goal

pub returns-in-Some : goal.returns-in-Some
returns-in-Some c =
    asked-texture c.args.seams c.args.depth c.args.arrays.now (uv_of_code c.in-Some.uv) c.texture_counted.result c.in-Some.ensures.rows c.texture_counted.ensures
