use Rattle.std.proofs.Common.{rules}
use Rattle.far_c.proofs.StatusLemmas.{exact-answered, exact-refused, refused-at-status}
use Rattle.far_c.proofs.RefusalLemmas.{none-kept}
use Rattle.far_c.proofs.points.far_points_exact.Goals as goal

pub returns-in-Ok-clause-answer : goal.returns-in-Ok-clause-answer
returns-in-Ok-clause-answer c =
    exact-answered c.args.mesh.now c.args.depth _ c.args.numerators.now c.put_exact-done.new.numerators c.args.denominators.now c.put_exact-done.new.denominators c.in-Ok.refined c.count_of.result c.put_exact-done.result c.written.result
    c.in-Ok.ensures c.count_of.ensures c.put_exact-done.ensures.long_enough c.put_exact-done.ensures.written c.put_exact-done.ensures.kept c.written.ensures.status

pub returns-in-Err-clause-answer : goal.returns-in-Err-clause-answer
returns-in-Err-clause-answer c = exact-refused c.args.mesh.now c.args.depth c.in-Err.found _ c.args.numerators.now c.args.denominators.now c.in-Err.ensures

pub returns-in-Err-clause-stays : goal.returns-in-Err-clause-stays
returns-in-Err-clause-stays c =
    let none = none-kept c.in-Err.found.status (refused-at-status c.args.mesh.now c.args.depth c.in-Err.found c.in-Err.ensures) in
    search (rules, none)
