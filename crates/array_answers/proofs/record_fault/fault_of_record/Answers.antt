use Rattle.std.proofs.Common.{◌≡◌, arith, sym}
use Rattle.std.proofs.lemmas.Grind.{common_steps}
use Rattle.far_fault.specs.View.{fault_of}
use Rattle.array_answers.proofs.RecordBackLemmas.{named-again}
use Rattle.array_answers.proofs.record_fault.fault_of_record.Goals as goal

pub returns-else-eq : goal.returns-else-eq
returns-else-eq c = λ fault is.
    let same : c.record_of.result ≡ c.args.held.now =
    named-again c.args.held.now c.record_of.result (fault_of c.fault_named-fault.result) c.fault_named-fault.ensures.row
    (sym c.record_of.ensures.numbers.row) fault is in
    grind (arith, common_steps)
