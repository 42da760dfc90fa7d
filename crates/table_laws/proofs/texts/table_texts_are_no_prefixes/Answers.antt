use Rattle.table_laws.proofs.PrefixLemmas.{same-table, nothing-left}
use Rattle.table_laws.proofs.texts.table_texts_are_no_prefixes.Goals as goal

pub returns-clause-table : goal.returns-clause-table
returns-clause-table c = same-table

pub returns-clause-rest : goal.returns-clause-rest
returns-clause-rest c = nothing-left
