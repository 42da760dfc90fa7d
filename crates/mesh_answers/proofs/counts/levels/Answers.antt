use Rattle.std.proofs.Common.{arith, refl}
use Rattle.far_model.specs.Command.{Levels}
use Rattle.mesh_answers.proofs.CountLemmas.{counts-reply}
use Rattle.mesh_answers.proofs.ReplyLemmas.{replies}
use Rattle.mesh_answers.proofs.counts.levels.Goals as goal

pub returns : goal.returns
returns g c =
    let level = c.level_within.ensures.steps in
    let counts = c.counts_from.ensures.steps c.args.mesh.now c.in_ok-level.ensures.level in
    replies (Levels c.args.depth) c.args.mesh.now c.args.steps.now c.counts_from.new.steps (omega (arith, level.later, counts.later)) (omega (arith, level.most, counts.most)) _
    (counts-reply c.args.depth c.args.mesh.now c.in_ok-counts.counts.items _ (c.in_ok-counts.ensures.counted c.args.mesh.now c.in_ok-level.ensures.level) refl tt)
    (omega (arith, level.later, counts.later))
