use Rattle.table_arrays.proofs.OwnLemmas.{own-refined}
use Rattle.table_arrays.proofs.check.own_table.Goals as goal

pub returns : goal.returns
returns c = own-refined c.args.arrays.now c.args.depth c.in_ok-refined.refined c.in_ok-refined.ensures
