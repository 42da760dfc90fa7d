-- Each text is that of the definitions, whose numbers are written as std writes them.
use Rattle.std.proofs.Common.{◌<◌, ◌^◌, arith}
use Rattle.number_laws.proofs.DecimalLemmas.{decimal-number_text}
use Rattle.primvar_refine.proofs.fault.ValueFaultDisplay.fmt.Goals as goal

pub returns-in-Transition-clause-writes : goal.returns-in-Transition-clause-writes
returns-in-Transition-clause-writes g c = λ plain ok.
    let short-v : c.in-Transition.v < 10 ^ 64 = omega arith in
    rw c.in-Transition.is (rw (decimal-number_text c.in-Transition.v short-v) at (c.write.ensures.writes plain ok))

pub returns-in-Denominator-clause-writes : goal.returns-in-Denominator-clause-writes
returns-in-Denominator-clause-writes g c = λ plain ok.
    let short-p : c.in-Denominator.p < 10 ^ 64 = omega arith in
    rw c.in-Denominator.is (rw (decimal-number_text c.in-Denominator.p short-p) at (c.write-in-Denominator.ensures.writes plain ok))

pub returns-in-TooBig-clause-writes : goal.returns-in-TooBig-clause-writes
returns-in-TooBig-clause-writes g c = λ plain ok.
    let short-p : c.in-TooBig.p < 10 ^ 64 = omega arith in
    rw c.in-TooBig.is (rw (decimal-number_text c.in-TooBig.p short-p) at (c.write-in-TooBig.ensures.writes plain ok))
