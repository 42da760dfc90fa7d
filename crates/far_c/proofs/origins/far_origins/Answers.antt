use Rattle.std.proofs.Common.{rules}
use Rattle.far_c.proofs.OriginLemmas.{origins-answered, origins-refused, levels-status}
use Rattle.far_c.proofs.RefusalLemmas.{none-kept}
use Rattle.far_c.proofs.origins.far_origins.Goals as goal

pub returns-in-Ok-clause-answer : goal.returns-in-Ok-clause-answer
returns-in-Ok-clause-answer c =
    origins-answered c.args.mesh.now c.args.depth _ c.args.places.now c.put_origins-done.new.places c.in-Ok.origins c.origin_counts_of.result c.put_origins-done.result c.written.result
    c.in-Ok.ensures c.origin_counts_of.ensures c.put_origins-done.ensures.long_enough c.put_origins-done.ensures.written c.put_origins-done.ensures.rest c.put_origins-done.ensures.kept c.written.ensures.status

pub returns-in-Err-clause-answer : goal.returns-in-Err-clause-answer
returns-in-Err-clause-answer c = origins-refused c.args.mesh.now c.args.depth c.in-Err.found c.args.places.now _ c.in-Err.ensures

pub returns-in-Err-clause-stays : goal.returns-in-Err-clause-stays
returns-in-Err-clause-stays c =
    let none = none-kept c.in-Err.found.status (levels-status c.args.mesh.now c.args.depth c.in-Err.found c.in-Err.ensures) in
    search (rules, none)
