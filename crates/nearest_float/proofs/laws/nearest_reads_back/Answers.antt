use Rattle.nearest_float.specs.Binary.{binary32, binary64}
use Rattle.nearest_float.proofs.FormatLemmas.{sound32, sound64}
use Rattle.nearest_float.proofs.BackLemmas.{back-one}
use Rattle.nearest_float.proofs.laws.nearest_reads_back.Goals as goal

pub returns-clause-double : goal.returns-clause-double
returns-clause-double c bits num den back = back-one binary64 bits num den back sound64

pub returns-clause-float : goal.returns-clause-float
returns-clause-float c bits num den back = back-one binary32 bits num den back sound32
