use Rattle.far_fault.specs.View.{fault_of}
use Rattle.far_words.specs.View.{patch_of_code}
use Rattle.array_answers.specs.Asked.{PatchRows}
use Rattle.array_answers.proofs.RowLemmas.{rows-refused}
use Rattle.array_answers.proofs.rows.patch_rows.Goals as goal

pub returns-in-Err : goal.returns-in-Err
returns-in-Err g c =
    rows-refused (PatchRows (patch_of_code c.args.options.now)) c.args.mesh.now (fault_of c.in-Err.fault) c.record_of.result c.in-Err.ensures.rows c.record_of.ensures.numbers
