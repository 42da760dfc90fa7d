use Rattle.std.proofs.lemmas.Grind.{common_steps}
use Rattle.std.proofs.Common.{rules, arith}
use Rattle.std.proofs.lemmas.Slice.{overwrites}
use Rattle.flat_arrays.proofs.put.put_items.Goals as goal

pub returns-clause-rest : goal.returns-clause-rest
returns-clause-rest g c = search (rules, overwrites)

-- asked for by name, so that a body that breaks it is refused at once
pub returns-clause-written : goal.returns-clause-written
returns-clause-written g c = grind (arith, common_steps)
