use Rattle.std.proofs.Common.{rules}
use Rattle.obj_out.proofs.CallerLemmas.{written, unfinished}
use Rattle.table_arrays.proofs.write.write_table.Goals as goal

pub returns-in_err-put_table : goal.returns-in_err-put_table
returns-in_err-put_table g c =
    let put = unfinished c.new-out.ensures c.from_residual.ensures.0 c.in_err-put_table.ensures in
    search (rules, put)

pub returns : goal.returns
returns g c =
    let put = written c.new-out.ensures c.in_ok-put_table.ensures c.end.ensures in
    search (rules, put)
