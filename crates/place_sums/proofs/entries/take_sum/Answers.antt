use Rattle.std.proofs.Common.{rules}
use Rattle.std.proofs.lemmas.List.{map-set}
use Rattle.place_sums.proofs.entries.take_sum.Goals as goal

-- The proof is given here by name, so that a wrong body is refused at once.
pub returns-clause-sums : goal.returns-clause-sums
returns-clause-sums g c = rw map-set (search rules)
