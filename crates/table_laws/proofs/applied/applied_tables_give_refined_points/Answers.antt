use Rattle.table_laws.proofs.AppliedLemmas.{applied}
use Rattle.table_laws.proofs.applied.applied_tables_give_refined_points.Goals as goal

pub returns : goal.returns
returns c = applied
