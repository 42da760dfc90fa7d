use Rattle.std.proofs.Common.{rules}
use Rattle.face_varying.proofs.build_sides.side_sharpness.Goals as goal

-- proved by name, so that the prover refuses a body that breaks it at once
pub returns-then-apart-e : goal.returns-then-apart-e
returns-then-apart-e c = search rules
