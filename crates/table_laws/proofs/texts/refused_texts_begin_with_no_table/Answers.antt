use Rattle.table_laws.proofs.PrefixLemmas.{no-table}
use Rattle.table_laws.proofs.texts.refused_texts_begin_with_no_table.Goals as goal

pub returns : goal.returns
returns c = no-table
