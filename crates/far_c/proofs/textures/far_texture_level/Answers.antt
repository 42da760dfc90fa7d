use Rattle.std.proofs.Common.{rules, subst, sym}
use Rattle.far_c.proofs.TextureLemmas.{texture-level-answered, texture-level-refused}
use Rattle.array_answers.specs.Asked.{texture_asked}
use Rattle.far_c.proofs.RefusalLemmas.{none-kept, request-status}
use Rattle.mesh_arrays.specs.Places.{IsRestKept}
use Rattle.far_c.proofs.RestLemmas.{level-kept}
use Rattle.far_c.proofs.textures.far_texture_level.Goals as goal

pub returns-in-Ok-clause-answer : goal.returns-in-Ok-clause-answer
returns-in-Ok-clause-answer c =
    texture-level-answered c.args.mesh.now c.args.seams c.args.depth _ c.args.places.now c.put_level-done.new.places c.in-Ok.found c.level_counts_of.result c.put_level-done.result
    c.written.result c.in-Ok.ensures c.level_counts_of.ensures c.put_level-done.ensures.long_enough c.put_level-done.ensures.written c.put_level-done.ensures.kept c.written.ensures.status

pub returns-in-Err-clause-answer : goal.returns-in-Err-clause-answer
returns-in-Err-clause-answer c = texture-level-refused c.args.mesh.now c.args.seams c.args.depth c.in-Err.refused c.args.places.now _ c.in-Err.ensures

pub returns-in-Err-clause-stays : goal.returns-in-Err-clause-stays
returns-in-Err-clause-stays c =
    let none = none-kept c.in-Err.refused.status (request-status (texture_asked c.args.seams c.args.depth) c.args.mesh.now c.in-Err.refused c.in-Err.ensures) in
    search (rules, none)

pub returns-in-Ok-clause-rest : goal.returns-in-Ok-clause-rest
returns-in-Ok-clause-rest c = subst (λ counts. IsRestKept counts c.args.places.now c.put_level-done.new.places) (sym c.level_counts_of.ensures) c.put_level-done.ensures.rest

pub returns-in-Err-clause-rest : goal.returns-in-Err-clause-rest
returns-in-Err-clause-rest c = level-kept _ c.args.places.now
