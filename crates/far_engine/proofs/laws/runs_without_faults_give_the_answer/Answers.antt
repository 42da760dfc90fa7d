use Rattle.far_engine.proofs.LawLemmas.{answered-without-faults}
use Rattle.far_engine.proofs.laws.runs_without_faults_give_the_answer.Goals as goal

pub returns : goal.returns
returns g c = λ run.
    answered-without-faults _ _ run.first run.last run.before run.after run.words run.bytes run.outcome run.runs run.known run.no_read_failed run.no_write_failed
