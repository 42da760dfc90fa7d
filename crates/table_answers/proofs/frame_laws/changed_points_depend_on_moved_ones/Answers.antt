use Rattle.table_answers.proofs.FrameLawLemmas.{changed-has}
use Rattle.table_answers.proofs.frame_laws.changed_points_depend_on_moved_ones.Goals as goal

pub returns : goal.returns
returns c = changed-has
