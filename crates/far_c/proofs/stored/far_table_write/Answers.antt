use Rattle.std.proofs.Common.{◌≡◌, ◌<◌, ◌^◌, ◌-◌, nat_le, length, arith, ap, rules}
use Rattle.far_c.proofs.StoredLemmas.{write-answered}
use Rattle.far_c.proofs.RefusalLemmas.{none-kept, write-status}
use Rattle.far_c.proofs.stored.far_table_write.Goals as goal

pub returns-in-Ok-clause-answer : goal.returns-in-Ok-clause-answer
returns-in-Ok-clause-answer c =
    let short : length c.args.out.now < 2 ^ 64 - 1 = omega arith in
    let same : length c.write_stored.new.out ≡ length c.args.out.now = omega arith in
    write-answered c.args.rows.now _ c.args.out.now c.write_stored.new.out c.in-Ok.table c.write_stored.result _ c.written.result short c.in-Ok.ensures c.write_stored.ensures.written
    c.write_stored.ensures.stored (ap (nat_le c.write_stored.result) same) c.written.ensures.status

pub returns-in-Err-clause-answer : goal.returns-in-Err-clause-answer
returns-in-Err-clause-answer c =
    let many = write-status c.args.rows.now c.in-Err.found c.in-Err.ensures in
    search (rules, many)

pub returns-in-Err-clause-stays : goal.returns-in-Err-clause-stays
returns-in-Err-clause-stays c =
    let none = none-kept c.in-Err.found.status (write-status c.args.rows.now c.in-Err.found c.in-Err.ensures) in
    search (rules, none)
