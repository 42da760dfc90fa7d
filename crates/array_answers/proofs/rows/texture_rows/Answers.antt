use Rattle.far_words.specs.View.{uv_of_code}
use Rattle.array_answers.proofs.RowLemmas.{texture-rows}
use Rattle.array_answers.proofs.rows.texture_rows.Goals as goal

pub returns-in-Ok : goal.returns-in-Ok
returns-in-Ok g c = texture-rows (uv_of_code c.args.uv) c.args.mesh.now c.args.depth c.in-Ok.texture c.table_of_texture.result c.in-Ok.ensures c.table_of_texture.ensures
