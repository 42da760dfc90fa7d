use Rattle.array_answers.proofs.RecordStatusLemmas.{fault-status, part-status, number-status}
use Rattle.array_answers.proofs.record_laws.faults_have_other_statuses.Goals as goal

pub returns-clause-run : goal.returns-clause-run
returns-clause-run c = fault-status

pub returns-clause-part : goal.returns-clause-part
returns-clause-part c = part-status

pub returns-clause-number : goal.returns-clause-number
returns-clause-number c = number-status
