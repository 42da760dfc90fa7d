use Rattle.table_laws.proofs.DifferenceLemmas.{difference-none}
use Rattle.table_laws.proofs.differences.tables_without_difference_are_equal.Goals as goal

pub returns : goal.returns
returns c = difference-none
