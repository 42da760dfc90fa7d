use Rattle.std.proofs.Common.{rules, subst, sym}
use Rattle.far_c.proofs.StatusLemmas.{level-answered, level-refused, refused-at-status}
use Rattle.far_c.proofs.RefusalLemmas.{none-kept}
use Rattle.mesh_arrays.specs.Places.{IsRestKept}
use Rattle.far_c.proofs.RestLemmas.{level-kept}
use Rattle.far_c.proofs.level.far_level.Goals as goal

pub returns-in-Ok-clause-answer : goal.returns-in-Ok-clause-answer
returns-in-Ok-clause-answer c =
    level-answered c.args.mesh.now c.args.depth _ c.args.places.now c.put_level-done.new.places c.in-Ok.refined c.level_counts_of.result c.put_level-done.result c.written.result
    c.in-Ok.ensures c.level_counts_of.ensures c.put_level-done.ensures.long_enough c.put_level-done.ensures.written c.put_level-done.ensures.kept c.written.ensures.status

pub returns-in-Err-clause-answer : goal.returns-in-Err-clause-answer
returns-in-Err-clause-answer c = level-refused c.args.mesh.now c.args.depth c.in-Err.found c.args.places.now _ c.in-Err.ensures

pub returns-in-Err-clause-stays : goal.returns-in-Err-clause-stays
returns-in-Err-clause-stays c =
    let none = none-kept c.in-Err.found.status (refused-at-status c.args.mesh.now c.args.depth c.in-Err.found c.in-Err.ensures) in
    search (rules, none)

pub returns-in-Ok-clause-stays : goal.returns-in-Ok-clause-stays
returns-in-Ok-clause-stays c = search rules

pub returns-in-Ok-clause-rest : goal.returns-in-Ok-clause-rest
returns-in-Ok-clause-rest c = subst (λ counts. IsRestKept counts c.args.places.now c.put_level-done.new.places) (sym c.level_counts_of.ensures) c.put_level-done.ensures.rest

pub returns-in-Err-clause-rest : goal.returns-in-Err-clause-rest
returns-in-Err-clause-rest c = level-kept _ c.args.places.now
