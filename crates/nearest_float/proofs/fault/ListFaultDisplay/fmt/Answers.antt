-- Each text is that of the definitions, whose numbers are written as std writes them.
use Rattle.std.proofs.Common.{◌<◌, ◌^◌, arith}
use Rattle.number_laws.proofs.DecimalLemmas.{decimal-number_text}
use Rattle.nearest_float.proofs.fault.ListFaultDisplay.fmt.Goals as goal

pub returns-in-At-clause-writes : goal.returns-in-At-clause-writes
returns-in-At-clause-writes g c = λ plain ok.
    let short : c.in-At.place < 10 ^ 64 = omega arith in
    rw c.in-At.is (rw (decimal-number_text c.in-At.place short) at (c.write.ensures.writes plain ok))
