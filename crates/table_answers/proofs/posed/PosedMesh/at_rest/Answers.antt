use Rattle.std.proofs.Common.{◌∙◌, sym, refl, arith}
use Rattle.mesh_answers.proofs.ReplyLemmas.{any-steps, failed-steps}
use Rattle.table_answers.specs.FrameStepCounts.{start_least}
use Rattle.table_answers.proofs.FrameStartLemmas.{points-count, points-fit, posed-at-rest}
use Rattle.table_answers.proofs.posed.PosedMesh.at_rest.Goals as goal

pub start-requires-clause-controls : goal.start-requires-clause-controls
start-requires-clause-controls g c = points-count c.args.mesh.now c.points.result.now c.points.ensures ∙ sym c.requires.table_is.controls

pub start-requires-clause-fits : goal.start-requires-clause-fits
start-requires-clause-fits g c = points-fit c.args.table c.points.result.now c.args.mesh.now.points c.points.ensures c.requires.points

pub returns-clause-posed : goal.returns-clause-posed
returns-clause-posed g c = (
  refl,
  posed-at-rest c.args.mesh.now c.args.depth c.scale.result c.args.table c.points.result.now c.in_ok-session.session c.requires c.points.ensures
      c.in_ok-session.ensures.state c.facts-2.ensures c.scale.ensures c.facts.ensures.common c.facts.ensures.common_short,
)

pub returns-clause-steps : goal.returns-clause-steps
returns-clause-steps g c =
    let least = start_least c.args.depth c.args.mesh.now in
    any-steps _ c.args.steps.now c.start.new.steps least least (omega (arith, c.in_ok-session.ensures.taken, c.requires.entries)) c.in_ok-session.ensures.later
    (omega (arith, c.in_ok-session.ensures.taken, c.requires.entries))

pub returns-in_err-session-clause-steps : goal.returns-in_err-session-clause-steps
returns-in_err-session-clause-steps g c =
    let least = start_least c.args.depth c.args.mesh.now in
    failed-steps _ c.args.steps.now c.start.new.steps least least c.from_residual.ensures.0 c.in_err-session.ensures.later
    (omega (arith, c.in_err-session.ensures.most, c.requires.entries))
