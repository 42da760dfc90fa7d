use Rattle.std.proofs.Common.{refl}
use Rattle.far_model.specs.Answer.{answer}
use Rattle.far_engine.proofs.LawLemmas.{answered-by, cut-at, no-write, not-to-zero, rose-at}
use Rattle.far_engine.proofs.laws.runs_in_memory_give_the_answer.Goals as goal

pub returns : goal.returns
returns c = λ run.
    answered-by _ _ run.bytes run.left run.before run.after run.words run.bytes run.outcome run.runs refl
    (λ e. not-to-zero 0 (rose-at _ _ run.bytes run.left run.before run.after run.words run.bytes run.outcome run.runs refl e))
    (λ e.
    let cut = cut-at _ _ run.bytes run.left run.before run.after run.words run.bytes run.outcome run.runs refl e in
    no-write (answer run.words run.bytes).text run.before run.after run.room cut.2 cut.1 cut.0)
