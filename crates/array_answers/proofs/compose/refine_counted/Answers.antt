use Rattle.far_fault.specs.View.{fault_of}
use Rattle.array_answers.proofs.AnswerLemmas.{refused}
use Rattle.array_answers.proofs.compose.refine_counted.Goals as goal

pub returns-in-Err-compose : goal.returns-in-Err-compose
returns-in-Err-compose g c =
    refused c.args.depth c.args.arrays.now c.in-Ok.mesh (fault_of c.in-Err-compose.fault) c.record_of.result c.requires.depth c.in-Ok.ensures c.in-Err-compose.ensures.composed c.record_of.ensures.numbers
