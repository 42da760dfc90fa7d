use Rattle.table_laws.proofs.ReadLemmas.{table-read}
use Rattle.table_laws.proofs.texts.written_tables_are_read.Goals as goal

pub returns : goal.returns
returns c = table-read
