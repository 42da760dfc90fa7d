-- Each text is that of the definitions, whose numbers are written as std writes them.
use Rattle.std.proofs.Common.{◌<◌, ◌^◌, arith}
use Rattle.number_laws.proofs.DecimalLemmas.{decimal-number_text}
use Rattle.uniform_refiner.proofs.fault.RefineFaultDisplay.fmt.Goals as goal

pub returns-in-TooLarge-clause-writes : goal.returns-in-TooLarge-clause-writes
returns-in-TooLarge-clause-writes g c = λ plain ok.
    let short-count : c.in-TooLarge.count < 10 ^ 64 = omega arith in
    rw c.in-TooLarge.is (rw (decimal-number_text c.in-TooLarge.count short-count) at (c.write.ensures.writes plain ok))

pub returns-in-Chaikin-clause-writes : goal.returns-in-Chaikin-clause-writes
returns-in-Chaikin-clause-writes g c = λ plain ok.
    let short-v : c.in-Chaikin.v < 10 ^ 64 = omega arith in
    rw c.in-Chaikin.is (rw (decimal-number_text c.in-Chaikin.v short-v) at (c.write-in-Chaikin.ensures.writes plain ok))
