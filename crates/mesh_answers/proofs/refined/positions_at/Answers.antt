use Rattle.std.proofs.Common.{sym, subst}
use Rattle.far_words.specs.View.{refine_of_code}
use Rattle.channel_refine.specs.Refined.{AreRefineSteps}
use Rattle.level_walk.specs.UniformFaults.{IsChannelFault}
use Rattle.mesh_answers.specs.Tracks.{IsPositionFault}
use Rattle.mesh_answers.proofs.PositionLemmas.{base-controls, position-steps, positions-failed, positions-refined}
use Rattle.mesh_answers.proofs.ReplyLemmas.{bad-steps, good-steps}
use Rattle.mesh_answers.proofs.refined.positions_at.Goals as goal

pub refine_along-requires-clause-controls : goal.refine_along-requires-clause-controls
refine_along-requires-clause-controls g c =
    base-controls c.args.mesh.now (refine_of_code c.args.options.now) _ c.points-points.result.now c.requires.fine c.requires.base c.points-points.ensures

pub returns-in-Ok-clause-positions : goal.returns-in-Ok-clause-positions
returns-in-Ok-clause-positions g c =
    positions-refined c.args.mesh.now (refine_of_code c.args.options.now) _ c.points-points.result.now c.requires.fine c.requires.base c.points-points.ensures c.facts.ensures.common
    c.in-Ok.refined (rw (← c.path_of-path.ensures) c.in-Ok.ensures.refined)

pub returns-in-Ok-clause-steps : goal.returns-in-Ok-clause-steps
returns-in-Ok-clause-steps g c =
    good-steps c.refine_along.result c.in-Ok.refined _ c.in-Ok.is
    (position-steps c.args.mesh.now (refine_of_code c.args.options.now).by c.args.base c.args.options.now.depth c.args.steps.now c.refine_along.new.steps c.refine_along.result c.requires.base
    (subst (λ asked. AreRefineSteps asked c.args.base c.args.options.now.depth c.refine_along.result c.args.steps.now c.refine_along.new.steps) c.path_of-path.ensures c.refine_along.ensures.steps))

pub returns-in-Err-clause-positions : goal.returns-in-Err-clause-positions
returns-in-Err-clause-positions g c =
    let options = refine_of_code c.args.options.now in
    subst (IsPositionFault options c.args.mesh.now) (sym c.fault_of_walk.ensures)
    (positions-failed c.args.mesh.now options c.args.base c.points-points.result.now c.requires.fine c.requires.base c.points-points.ensures c.in-Err.fault
    (subst (λ asked. IsChannelFault asked c.args.base c.args.options.now.depth c.in-Err.fault) c.path_of-path.ensures c.in-Err.ensures.refined))

pub returns-in-Err-clause-steps : goal.returns-in-Err-clause-steps
returns-in-Err-clause-steps g c =
    bad-steps c.refine_along.result _
    (position-steps c.args.mesh.now (refine_of_code c.args.options.now).by c.args.base c.args.options.now.depth c.args.steps.now c.refine_along.new.steps c.refine_along.result c.requires.base
    (subst (λ asked. AreRefineSteps asked c.args.base c.args.options.now.depth c.refine_along.result c.args.steps.now c.refine_along.new.steps) c.path_of-path.ensures c.refine_along.ensures.steps))
