use Rattle.std.proofs.Common.{arith, ap}
use Rattle.std.specs.Prelude.{length}
use Rattle.table_answers.proofs.LineLemmas.{points-few}
use Rattle.table_answers.proofs.applied.answer_read.Goals as goal

pub table_points-requires : goal.table_points-requires
table_points-requires g c =
    omega (arith, c.requires, points-few c.args.text.now, ap (λ mesh. length mesh.points) c.in_ok-mesh.ensures.mesh_is)
