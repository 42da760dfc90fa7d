use Rattle.table_laws.proofs.OwnTableLemmas.{composed-stored}
use Rattle.table_laws.proofs.own_tables.composed_tables_are_stored.Goals as goal

pub returns : goal.returns
returns c = composed-stored
