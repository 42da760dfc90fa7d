use Rattle.std.proofs.Common.{◌≤◌, subst, sym}
use Rattle.far_fault.specs.View.{fault_of}
use Rattle.subdiv_model.specs.Fault.{Fault, fault_line}
use Rattle.array_answers.specs.RecordLines.{IsPut}
use Rattle.array_answers.proofs.RecordBackLemmas.{one-fault}
use Rattle.array_answers.proofs.RecordLengthLemmas.{line-short}
use Rattle.array_answers.proofs.record_line.put_line.Goals as goal

pub put_fault_line-requires : goal.put_fault_line-requires
put_fault_line-requires c = line-short (fault_of c.in-Some.fault) c.in-Some.ensures.range

pub returns-in-Some-clause-line : goal.returns-in-Some-clause-line
returns-in-Some-clause-line c = λ fault is.
    subst (λ (f : Fault). IsPut (fault_line f) c.args.out.now c.put_fault_line.new.out c.put_fault_line.result)
    (one-fault c.args.held.now (fault_of c.in-Some.fault) fault c.in-Some.ensures is) c.put_fault_line.ensures

pub returns-in-Some-clause-short : goal.returns-in-Some-clause-short
returns-in-Some-clause-short c =
    subst (λ n. n ≤ 128) (sym c.put_fault_line.ensures.counted) (line-short (fault_of c.in-Some.fault) c.in-Some.ensures.range)
