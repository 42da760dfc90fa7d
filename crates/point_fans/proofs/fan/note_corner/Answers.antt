use Rattle.std.proofs.Common.{rules}
use Rattle.point_fans.proofs.fan.note_corner.Goals as goal

-- asked for by name, so that a body that breaks it is refused at once
pub returns : goal.returns
returns c = search rules
