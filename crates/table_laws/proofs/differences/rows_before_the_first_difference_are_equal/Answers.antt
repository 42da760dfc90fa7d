use Rattle.table_laws.proofs.DifferenceLemmas.{rows-before, row-there, other-controls}
use Rattle.table_laws.proofs.differences.rows_before_the_first_difference_are_equal.Goals as goal

pub returns-clause-before : goal.returns-clause-before
returns-clause-before c = rows-before

pub returns-clause-there : goal.returns-clause-there
returns-clause-there c = row-there

pub returns-clause-controls : goal.returns-clause-controls
returns-clause-controls c = other-controls
