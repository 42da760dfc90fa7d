use Rattle.std.proofs.Common.{rules}
use Rattle.far_words.proofs.number.read_number.Goals as goal

-- asked for by name, so that a body that breaks it is refused at once
pub returns-in_default : goal.returns-in_default
returns-in_default c = search rules
