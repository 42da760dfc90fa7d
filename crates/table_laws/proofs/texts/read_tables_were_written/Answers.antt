use Rattle.table_laws.proofs.BackLemmas.{table-written}
use Rattle.table_laws.proofs.texts.read_tables_were_written.Goals as goal

pub returns-clause-text : goal.returns-clause-text
returns-clause-text c = λ bytes reading read. (table-written bytes reading read).text

pub returns-clause-stored : goal.returns-clause-stored
returns-clause-stored c = λ bytes reading read. (table-written bytes reading read).stored
