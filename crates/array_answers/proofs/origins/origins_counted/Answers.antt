use Rattle.far_fault.specs.View.{fault_of}
use Rattle.array_answers.proofs.OriginLemmas.{levels-refused, origins-found}
use Rattle.array_answers.proofs.origins.origins_counted.Goals as goal

pub returns-in-Ok-origins : goal.returns-in-Ok-origins
returns-in-Ok-origins g c = origins-found c.args.arrays.now c.args.depth c.in-Ok.mesh c.in-Ok-origins.found c.requires.depth c.in-Ok.ensures c.in-Ok-origins.ensures.found

pub returns : goal.returns
returns g c =
    levels-refused c.args.depth c.args.arrays.now c.in-Ok.mesh (fault_of c.in-Err-origins.fault) c.record_of.result c.requires.depth c.in-Ok.ensures c.in-Err-origins.ensures.found c.record_of.ensures.numbers
