use Rattle.std.proofs.Common.{rules}
use Rattle.table_answers.proofs.moves.move_control.Goals as goal

-- asked for by name, so that a body that breaks it is refused at once
pub returns-in-Ok : goal.returns-in-Ok
returns-in-Ok g c = search rules

pub returns-in-Err : goal.returns-in-Err
returns-in-Err g c = search rules
