use Rattle.table_arrays.proofs.CheckLemmas.{compared}
use Rattle.table_arrays.proofs.check.check_text.Goals as goal

pub returns : goal.returns
returns c = compared c.args.own.now c.in_ok-stored.stored c.args.text.now c.compare.result c.in_ok-stored.ensures c.compare.ensures
