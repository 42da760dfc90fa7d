use Rattle.nearest_float.proofs.ArrayLemmas.{AreNearest-append}
use Rattle.nearest_float.proofs.array_laws.nearest_join.Goals as goal

pub returns : goal.returns
returns c = AreNearest-append
