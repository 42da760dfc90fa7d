use Rattle.std.proofs.Common.{◌≤◌, sym, subst}
use Rattle.array_answers.specs.declared.record.FaultRecord.{FaultRecord}
use Rattle.array_answers.proofs.RecordStatusLemmas.{number-status}
use Rattle.far_c.proofs.numbers.record_of_number.Goals as goal

pub returns-clause-status : goal.returns-clause-status
returns-clause-status c = subst (λ (it : FaultRecord). 2 ≤ it.status) (sym c.of_bad_number.ensures) (number-status _ c.args.fault.fault)
