use Rattle.array_answers.proofs.RecordBackLemmas.{comes-back}
use Rattle.array_answers.proofs.record_laws.faults_come_back.Goals as goal

pub returns : goal.returns
returns c = comes-back
