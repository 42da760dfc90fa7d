use Rattle.std.proofs.Common.{arith, nat_lt, length}
use Rattle.subdiv_model.specs.Level.{faces_at}
use Rattle.level_walk.proofs.CountLemmas.{count-next, count-most}
use Rattle.level_walk.proofs.points.used_points.Goals as goal

pub overflow_add-count : goal.overflow_add-count
overflow_add-count c = record { fits = omega (arith, c.loop-v-test.true, count-most (λ v. nat_lt 0 (length (faces_at c.args.level.now.level v))) c.loop-v.v _ _ _ c.from-count.ensures c.is_used.ensures c.loop-v.invariant) }

pub loop-v-preserved : goal.loop-v-preserved
loop-v-preserved c = count-next (λ v. nat_lt 0 (length (faces_at c.args.level.now.level v))) c.loop-v.v _ _ _ c.from-count.ensures c.is_used.ensures c.loop-v.invariant
