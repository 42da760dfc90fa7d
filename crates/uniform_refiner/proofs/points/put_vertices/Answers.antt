use Rattle.std.proofs.Common.{◌≡◌, ◌<◌, ◌∙◌, ap, sym, subst, arith, ℕ}
use Rattle.subdiv_model.specs.Sharpness.{uniform_child}
use Rattle.level_laws.proofs.NewPointLemmas.{old-uniform}
use Rattle.uniform_refiner.specs.Points.{ArePoints}
use Rattle.uniform_refiner.proofs.points.put_vertices.Goals as goal

pub put_row-requires-clause-sharp : goal.put_row-requires-clause-sharp
put_row-requires-clause-sharp c =
    let low : c.loop-v.v < c.args.level.now.level.point_count = omega (arith, c.loop-v-test.true, c.points-v-end.ensures) in
    c.uniform_child.ensures ∙ ap uniform_child c.vertex_sharpness.ensures ∙ sym (old-uniform c.args.level.now.level c.loop-v.v low)

pub returns-clause-put : goal.returns-clause-put
returns-clause-put c =
    let last : c.loop-v.v ≡ c.args.level.now.level.point_count = omega (arith, c.loop-v-test.false, c.loop-v.auto.v-end, c.points-v-end.ensures) in
    subst (λ (k : ℕ). ArePoints c.args.level.now.level k c.loop-v.rows) last c.loop-v.invariant.put
