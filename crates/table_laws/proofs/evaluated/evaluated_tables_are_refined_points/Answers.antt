use Rattle.table_laws.proofs.EvaluatedLemmas.{points-same}
use Rattle.table_laws.proofs.evaluated.evaluated_tables_are_refined_points.Goals as goal

pub returns : goal.returns
returns c = points-same
