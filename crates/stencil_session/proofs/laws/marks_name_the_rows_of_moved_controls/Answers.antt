use Rattle.stencil_session.proofs.LawLemmas.{marks-are, rows-are, answers-are}
use Rattle.stencil_session.proofs.laws.marks_name_the_rows_of_moved_controls.Goals as goal

pub returns-clause-marks : goal.returns-clause-marks
returns-clause-marks c = marks-are

pub returns-clause-rows : goal.returns-clause-rows
returns-clause-rows c = rows-are

pub returns-clause-answers : goal.returns-clause-answers
returns-clause-answers c = answers-are
