use Rattle.obj_out.proofs.PutsLemmas.{puts-after, puts-cut}
use Rattle.table_file.proofs.put.put_table.Goals as goal

pub returns-in_err-put_counts : goal.returns-in_err-put_counts
returns-in_err-put_counts g c =
    puts-cut _ c.from_residual.ensures.0 c.in_err-put_counts.ensures

pub returns : goal.returns
returns g c =
    puts-after c.in_ok-put_counts.ensures c.put_rows.ensures
