-- Each text is that of the definitions, whose numbers are written as std writes them.
use Rattle.std.proofs.Common.{◌<◌, ◌^◌, arith}
use Rattle.number_laws.proofs.DecimalLemmas.{decimal-number_text}
use Rattle.mesh_arrays.proofs.fault.ArraysFaultDisplay.fmt.Goals as goal

pub returns-in-CreaseSharpness-clause-writes : goal.returns-in-CreaseSharpness-clause-writes
returns-in-CreaseSharpness-clause-writes g c = λ plain ok.
    let short : c.in-CreaseSharpness.place < 10 ^ 64 = omega arith in
    rw c.in-CreaseSharpness.is (rw (decimal-number_text c.in-CreaseSharpness.place short) at (c.write.ensures.writes plain ok))

pub returns-in-CornerSharpness-clause-writes : goal.returns-in-CornerSharpness-clause-writes
returns-in-CornerSharpness-clause-writes g c = λ plain ok.
    let short : c.in-CornerSharpness.place < 10 ^ 64 = omega arith in
    rw c.in-CornerSharpness.is (rw (decimal-number_text c.in-CornerSharpness.place short) at (c.write-in-CornerSharpness.ensures.writes plain ok))
