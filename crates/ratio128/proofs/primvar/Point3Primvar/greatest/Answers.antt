use Rattle.std.proofs.Common.{rules}
use Rattle.ratio128.proofs.primvar.Point3Primvar.greatest.Goals as goal

-- the answer names its goal, so that the prover refuses a wrong body at once
pub returns : goal.returns
returns g c = search rules
