use Rattle.std.proofs.Common.{inr, refl, rules}
use Rattle.far_c.proofs.RefusalLemmas.{none-kept, check-status}
use Rattle.far_c.proofs.stored.far_table_check.Goals as goal

pub returns-in-Err-clause-answer : goal.returns-in-Err-clause-answer
returns-in-Err-clause-answer c = inr (inr (check-status c.args.mesh.now c.args.depth c.args.text.now c.in-Err.found c.in-Err.ensures, refl, c.in-Err.ensures))

pub returns-in-Err-clause-stays : goal.returns-in-Err-clause-stays
returns-in-Err-clause-stays c =
    let none = none-kept c.in-Err.found.status (check-status c.args.mesh.now c.args.depth c.args.text.now c.in-Err.found c.in-Err.ensures) in
    search (rules, none)
