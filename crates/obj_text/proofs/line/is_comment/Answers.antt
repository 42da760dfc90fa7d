use Rattle.std.proofs.Common.{rules}
use Rattle.obj_text.proofs.line.is_comment.Goals as goal

-- asked for by name, so that a body that breaks it is refused at once
pub returns-in-len1-up : goal.returns-in-len1-up
returns-in-len1-up c = search rules
