use Rattle.std.proofs.Common.{rules}
use Rattle.face_varying.proofs.points.add_corner.Goals as goal

-- proved by name, so that the prover refuses a body that breaks it at once
pub returns-in_ok-push_point-clause-vertices : goal.returns-in_ok-push_point-clause-vertices
returns-in_ok-push_point-clause-vertices c = search rules

pub returns-in_ok-push_point-clause-values : goal.returns-in_ok-push_point-clause-values
returns-in_ok-push_point-clause-values c = search rules
