use Rattle.std.proofs.Common.{rules}
use Rattle.table_file.proofs.put.put_denominator.Goals as goal

-- proved by name, so that the prover refuses a body that breaks it at once
pub returns : goal.returns
returns g c = search rules
