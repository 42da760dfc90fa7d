use Rattle.std.proofs.Common.{rules}
use Rattle.face_varying.proofs.kept_corners.is_single.Goals as goal

-- proved by name, so that the prover refuses a body that breaks it at once
pub returns : goal.returns
returns c = search rules
