-- Each text is that of the definitions, whose numbers are written as std writes them.
use Rattle.std.proofs.Common.{◌<◌, ◌^◌, arith}
use Rattle.number_laws.proofs.DecimalLemmas.{decimal-number_text}
use Rattle.row_arrays.proofs.rows.RowFaultDisplay.fmt.Goals as goal

pub returns-in-Row-clause-writes : goal.returns-in-Row-clause-writes
returns-in-Row-clause-writes g c = λ plain ok.
    let short : c.in-Row.row < 10 ^ 64 = omega arith in
    rw c.in-Row.is (rw (decimal-number_text c.in-Row.row short) at (c.write.ensures.writes plain ok))

pub returns-in-Overflow-clause-writes : goal.returns-in-Overflow-clause-writes
returns-in-Overflow-clause-writes g c = λ plain ok.
    let short : c.in-Overflow.row < 10 ^ 64 = omega arith in
    rw c.in-Overflow.is (rw (decimal-number_text c.in-Overflow.row short) at (c.write-in-Overflow.ensures.writes plain ok))
