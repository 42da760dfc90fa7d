use Rattle.nearest_float.specs.Binary.{binary32, binary64}
use Rattle.nearest_float.proofs.FormatLemmas.{sound32, sound64}
use Rattle.nearest_float.proofs.LawLemmas.{nearest-one}
use Rattle.nearest_float.proofs.laws.one_is_nearest.Goals as goal

pub returns-clause-double : goal.returns-clause-double
returns-clause-double c num den a b = nearest-one binary64 num den a b sound64

pub returns-clause-float : goal.returns-clause-float
returns-clause-float c num den a b = nearest-one binary32 num den a b sound32
