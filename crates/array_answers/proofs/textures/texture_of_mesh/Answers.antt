use Rattle.far_fault.specs.View.{fault_of}
use Rattle.far_words.specs.View.{uv_of_code}
use Rattle.array_answers.specs.Asked.{TextureRows}
use Rattle.array_answers.proofs.RowLemmas.{rows-refused}
use Rattle.array_answers.proofs.textures.texture_of_mesh.Goals as goal

pub returns-in-Err : goal.returns-in-Err
returns-in-Err g c =
    rows-refused (TextureRows (uv_of_code c.args.uv) c.args.depth) c.args.mesh.now (fault_of c.in-Err.fault) c.record_of.result c.in-Err.ensures.composed c.record_of.ensures.numbers
