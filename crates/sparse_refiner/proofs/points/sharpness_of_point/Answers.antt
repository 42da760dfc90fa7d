use Rattle.std.proofs.Common.{◌<◌, ◌≤◌, ◌∙◌, sym, arith}
use Rattle.level_laws.proofs.NewPointLemmas.{old-uniform, new-smooth}
use Rattle.sparse_refiner.proofs.points.sharpness_of_point.Goals as goal

pub returns-then-n-points : goal.returns-then-n-points
returns-then-n-points c =
    let low : c.args.n < c.args.level.now.level.point_count = omega (arith, c.if-n-points.true, c.points.ensures) in
    c.child_of_vertex.ensures ∙ sym (old-uniform c.args.level.now.level c.args.n low)

pub returns-else-n-points : goal.returns-else-n-points
returns-else-n-points c =
    let high : c.args.level.now.level.point_count ≤ c.args.n = omega (arith, c.if-n-points.false, c.points.ensures) in
    sym (new-smooth c.args.level.now.level c.args.n high)
