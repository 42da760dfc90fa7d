use Rattle.std.proofs.Common.{arith}
use Rattle.subdiv_model.specs.Level.{is_hole}
use Rattle.level_walk.proofs.CountLemmas.{count-next, count-most}
use Rattle.level_walk.proofs.faces.hole_count.Goals as goal

pub overflow_add-count : goal.overflow_add-count
overflow_add-count c = record { fits = omega (arith, c.loop-f-test.true, count-most (is_hole c.args.level.now.level) c.loop-f.f _ _ _ c.from-count.ensures c.is_hole.ensures c.loop-f.invariant) }

pub loop-f-preserved : goal.loop-f-preserved
loop-f-preserved c = count-next (is_hole c.args.level.now.level) c.loop-f.f _ _ _ c.from-count.ensures c.is_hole.ensures c.loop-f.invariant
