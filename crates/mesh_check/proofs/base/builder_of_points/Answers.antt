use Rattle.std.proofs.Common.{arith, length, ap, ◌∙◌}
use Rattle.std.proofs.lemmas.Result.{IfOk-weaker}
use Rattle.level_builder.specs.Builder.{only_points}
use Rattle.mesh_check.proofs.CountLemmas.{point-count}
use Rattle.mesh_check.proofs.base.builder_of_points.Goals as goal

pub overflow_cast-points : goal.overflow_cast-points
overflow_cast-points c = omega (arith, point-count c.points.result.now _ c.points.ensures, c.requires.points)

pub with_key-requires : goal.with_key-requires
with_key-requires c = omega (arith, point-count c.points.result.now _ c.points.ensures, c.requires.points)

pub returns : goal.returns
returns c =
    IfOk-weaker c.with_key.result _ _ (λ b made. made ∙ ap (only_points (length c.points.result.now)) c.method.ensures ∙ ap (λ n. only_points n c.args.raw.now.method) (point-count c.points.result.now _ c.points.ensures)) c.with_key.ensures
