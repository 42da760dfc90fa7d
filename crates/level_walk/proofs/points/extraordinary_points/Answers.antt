use Rattle.std.proofs.Common.{arith}
use Rattle.subdiv_model.specs.LevelText.{is_extraordinary}
use Rattle.level_walk.proofs.CountLemmas.{count-next, count-most}
use Rattle.level_walk.proofs.points.extraordinary_points.Goals as goal

pub overflow_add-count : goal.overflow_add-count
overflow_add-count c = record { fits = omega (arith, c.loop-v-test.true, count-most (is_extraordinary c.args.level.now.level) c.loop-v.v _ _ _ c.from-count.ensures c.is_extraordinary.ensures c.loop-v.invariant) }

pub loop-v-preserved : goal.loop-v-preserved
loop-v-preserved c = count-next (is_extraordinary c.args.level.now.level) c.loop-v.v _ _ _ c.from-count.ensures c.is_extraordinary.ensures c.loop-v.invariant
