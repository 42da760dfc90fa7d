use Rattle.std.proofs.Common.{rules}
use Rattle.raw_mesh.proofs.mesh.Faces.has_texture.Goals as goal

-- asked for by name, so that a body that breaks it is refused at once
pub returns-then-len-gt1 : goal.returns-then-len-gt1
returns-then-len-gt1 c = search rules
