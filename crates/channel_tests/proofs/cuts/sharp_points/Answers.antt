use Rattle.std.proofs.lemmas.Grind.{common_steps}
use Rattle.std.proofs.Common.{arith}
use Rattle.channel_tests.proofs.cuts.sharp_points.Goals as goal

pub vertex_sharpness-requires : goal.vertex_sharpness-requires
vertex_sharpness-requires c = grind (arith, common_steps)
