use Rattle.std.proofs.Common.{rules}
use Rattle.obj_tags.proofs.face.places_of.Goals as goal

-- asked for by name, so that a body that breaks it is refused at once
pub returns-in_ok-place-in-Some : goal.returns-in_ok-place-in-Some
returns-in_ok-place-in-Some c = search rules

pub returns-in-None : goal.returns-in-None
returns-in-None c = search rules
