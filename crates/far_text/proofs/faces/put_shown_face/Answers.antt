use Rattle.std.proofs.Common.{rules}
use Rattle.far_text.proofs.faces.put_shown_face.Goals as goal

-- asked for by name, so that a body that breaks it is refused at once
pub returns-then-holes : goal.returns-then-holes
returns-then-holes g c = search rules
