-- Each text is that of the definitions, whose numbers are written as std writes them.
use Rattle.std.proofs.Common.{◌<◌, ◌^◌, arith}
use Rattle.number_laws.proofs.DecimalLemmas.{decimal-number_text}
use Rattle.row_arrays.proofs.fraction_fault.FractionFaultDisplay.fmt.Goals as goal

pub returns-in-Denominator-clause-writes : goal.returns-in-Denominator-clause-writes
returns-in-Denominator-clause-writes g c = λ plain ok.
    let short : c.in-Denominator.place < 10 ^ 64 = omega arith in
    rw c.in-Denominator.is (rw (decimal-number_text c.in-Denominator.place short) at (c.write.ensures.writes plain ok))

pub returns-in-Numerator-clause-writes : goal.returns-in-Numerator-clause-writes
returns-in-Numerator-clause-writes g c = λ plain ok.
    let short : c.in-Numerator.place < 10 ^ 64 = omega arith in
    rw c.in-Numerator.is (rw (decimal-number_text c.in-Numerator.place short) at (c.write-in-Numerator.ensures.writes plain ok))
