use Rattle.table_answers.proofs.FrameLawLemmas.{named-all, none-waits}
use Rattle.table_answers.proofs.frame_laws.answers_of_go_name_the_changed_points.Goals as goal

pub returns-clause-named : goal.returns-clause-named
returns-clause-named c = λ depth mesh lines point. named-all depth mesh point lines

pub returns-clause-none : goal.returns-clause-none
returns-clause-none c = none-waits
