use Rattle.std.proofs.Common.{rules}
use Rattle.obj_text.proofs.index.read_index.Goals as goal

-- asked for by name, so that a body that breaks it is refused at once
pub returns-in_ok-digits_up_to-in_default : goal.returns-in_ok-digits_up_to-in_default
returns-in_ok-digits_up_to-in_default c = search rules
