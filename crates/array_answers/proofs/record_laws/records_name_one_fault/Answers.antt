use Rattle.array_answers.proofs.RecordBackLemmas.{one-fault}
use Rattle.array_answers.proofs.record_laws.records_name_one_fault.Goals as goal

pub returns : goal.returns
returns c = one-fault
