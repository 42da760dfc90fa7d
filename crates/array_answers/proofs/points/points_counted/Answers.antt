use Rattle.std.proofs.Common.{rules}
use Rattle.far_fault.specs.View.{fault_of}
use Rattle.array_answers.proofs.AnswerLemmas.{refused, can-be-evaluated, refined, dens-are, points-found}
use Rattle.array_answers.proofs.points.points_counted.Goals as goal

pub returns-in-Err-compose : goal.returns-in-Err-compose
returns-in-Err-compose g c =
    refused c.args.depth c.args.arrays.now c.in-Ok.mesh (fault_of c.in-Err-compose.fault) _ c.requires.depth c.in-Ok.ensures c.in-Err-compose.ensures.composed (search rules)

pub evaluate-requires : goal.evaluate-requires
evaluate-requires g c = can-be-evaluated c.in-Ok.mesh c.args.depth c.in-Ok-compose.composed c.points.result.now c.in-Ok-compose.ensures.composed c.facts-2.ensures c.points.ensures

pub returns-in-Ok-evaluate : goal.returns-in-Ok-evaluate
returns-in-Ok-evaluate g c =
    points-found c.args.arrays.now c.args.depth c.in-Ok.mesh c.in-Ok-compose.composed _ c.requires.depth c.in-Ok.ensures
    c.in-Ok-compose.ensures.composed (search rules)
    (refined c.in-Ok.mesh c.args.depth c.in-Ok-compose.composed c.points.result.now c.in-Ok-compose.ensures.composed c.facts-2.ensures c.points.ensures c.in-Ok-evaluate.points.items c.facts.ensures.common c.in-Ok-evaluate.ensures.values)
    (dens-are c.in-Ok.mesh c.args.depth c.in-Ok-compose.composed c.points.result.now c.in-Ok-compose.ensures.composed c.facts-2.ensures c.points.ensures c.in-Ok-evaluate.points.items c.in-Ok-evaluate.ensures.values)
