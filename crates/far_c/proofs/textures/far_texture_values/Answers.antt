use Rattle.std.proofs.Common.{rules}
use Rattle.far_c.proofs.TextureLemmas.{values-answered, values-refused}
use Rattle.array_answers.specs.Asked.{texture_asked}
use Rattle.far_c.proofs.RefusalLemmas.{none-kept, request-status}
use Rattle.far_c.proofs.textures.far_texture_values.Goals as goal

pub returns-in-Ok-clause-answer : goal.returns-in-Ok-clause-answer
returns-in-Ok-clause-answer c =
    values-answered c.args.mesh.now c.args.seams _ c.args.out.now c.put_values-done.new.out c.in-Ok.found c.count_of.result c.put_values-done.result c.written.result
    c.in-Ok.ensures c.count_of.ensures c.put_values-done.ensures.long_enough c.put_values-done.ensures.written c.put_values-done.ensures.kept c.written.ensures.status

pub returns-in-Err-clause-answer : goal.returns-in-Err-clause-answer
returns-in-Err-clause-answer c = values-refused c.args.mesh.now c.args.seams c.in-Err.refused _ c.args.out.now c.in-Err.ensures

pub returns-in-Err-clause-stays : goal.returns-in-Err-clause-stays
returns-in-Err-clause-stays c =
    let none = none-kept c.in-Err.refused.status (request-status (texture_asked c.args.seams 0) c.args.mesh.now c.in-Err.refused c.in-Err.ensures) in
    search (rules, none)
