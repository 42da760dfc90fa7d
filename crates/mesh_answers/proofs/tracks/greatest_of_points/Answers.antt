use Rattle.std.proofs.lemmas.Grind.{common_steps}
use Rattle.std.proofs.Common.{arith}
use Rattle.mesh_answers.proofs.tracks.greatest_of_points.Goals as goal

-- asked for by name, so that a body that breaks it is refused at once
pub loop-rest-preserved : goal.loop-rest-preserved
loop-rest-preserved c = grind (arith, common_steps)
