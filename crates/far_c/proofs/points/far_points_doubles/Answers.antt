use Rattle.std.proofs.Common.{rules}
use Rattle.nearest_float.specs.Binary.{binary64}
use Rattle.far_c.proofs.StatusLemmas.{points-answered, points-refused, refused-at-status}
use Rattle.far_c.proofs.RefusalLemmas.{none-kept}
use Rattle.far_c.proofs.points.far_points_doubles.Goals as goal

pub returns-in-Ok-clause-answer : goal.returns-in-Ok-clause-answer
returns-in-Ok-clause-answer c =
    points-answered c.args.mesh.now c.args.depth _ binary64 c.args.out.now c.put_doubles-done.new.out c.in-Ok.refined c.count_of.result c.put_doubles-done.result c.written.result
    c.in-Ok.ensures c.count_of.ensures c.put_doubles-done.ensures.long_enough c.put_doubles-done.ensures.written c.put_doubles-done.ensures.kept c.written.ensures.status

pub returns-in-Err-clause-answer : goal.returns-in-Err-clause-answer
returns-in-Err-clause-answer c = points-refused c.args.mesh.now c.args.depth c.in-Err.found binary64 _ c.args.out.now c.in-Err.ensures

pub returns-in-Err-clause-stays : goal.returns-in-Err-clause-stays
returns-in-Err-clause-stays c =
    let none = none-kept c.in-Err.found.status (refused-at-status c.args.mesh.now c.args.depth c.in-Err.found c.in-Err.ensures) in
    search (rules, none)
