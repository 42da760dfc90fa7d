use Rattle.std.proofs.Common.{rules}
use Rattle.table_arrays.specs.Texts.{read_refusal}
use Rattle.far_c.proofs.RefusalLemmas.{none-kept, read-status}
use Rattle.far_c.proofs.stored.far_table_read.Goals as goal

pub returns-in-Err-clause-answer : goal.returns-in-Err-clause-answer
returns-in-Err-clause-answer c =
    let many = read-status (read_refusal c.args.text.now) c.in-Err.found c.in-Err.ensures in
    search (rules, many)

pub returns-in-Err-clause-stays : goal.returns-in-Err-clause-stays
returns-in-Err-clause-stays c =
    let none = none-kept c.in-Err.found.status (read-status (read_refusal c.args.text.now) c.in-Err.found c.in-Err.ensures) in
    search (rules, none)
