use Rattle.std.proofs.Common.{◌+◌, ◌<◌, ◌≤◌, length, arith, sym, subst}
use Rattle.far_model.specs.Command.{Gen, ByTable}
use Rattle.subdiv_model.specs.ObjMesh.{ObjMesh}
use Rattle.far_words.specs.View.{gen_of_code}
use Rattle.mesh_answers.specs.StepCounts.{level_faces_to, position_steps}
use Rattle.mesh_answers.proofs.ReplyLemmas.{made-refuses, made-replies}
use Rattle.mesh_answers.proofs.SummaryLemmas.{made-found, made-reply, sheet-some}
use Rattle.mesh_answers.proofs.sheet.generate.Goals as goal

pub summary_at-summary-requires-clause-some : goal.summary_at-summary-requires-clause-some
summary_at-summary-requires-clause-some g c =
    let options = gen_of_code c.args.options.now in
    subst (λ (mesh : ObjMesh). 0 < length mesh.points) (sym c.in_ok-mesh.ensures) (sheet-some options.seed options.size)

pub returns-in_err-composed : goal.returns-in_err-composed
returns-in_err-composed g c =
    let options = gen_of_code c.args.options.now in
    let fine = c.sheets_are_manifolds.ensures.fine options.seed options.size (omega (arith, c.requires.0)) in
    let composed = c.compose.ensures.steps in
    made-refuses (Gen options) c.args.steps.now c.compose.new.steps composed.later
    (subst (λ mesh. c.compose.new.steps ≤ c.args.steps.now + (level_faces_to options.depth mesh + position_steps ByTable options.depth mesh)) c.in_ok-mesh.ensures (omega (arith, composed.most)))
    _ _ c.from_residual-in_err-composed.ensures.0 c.from_residual-in_err-composed.ensures.1
    (made-found options c.in_ok-mesh.mesh c.in_ok-mesh.ensures fine _ c.in_err-composed.ensures.composed)

pub returns-in_err-summary : goal.returns-in_err-summary
returns-in_err-summary g c =
    let options = gen_of_code c.args.options.now in
    let fine = c.sheets_are_manifolds.ensures.fine options.seed options.size (omega (arith, c.requires.0)) in
    let composed = c.compose.ensures.steps in
    let summary = c.summary_at-summary.ensures.steps in
    made-refuses (Gen options) c.args.steps.now c.summary_at-summary.new.steps (omega (arith, composed.later, summary.later))
    (subst (λ mesh. c.summary_at-summary.new.steps ≤ c.args.steps.now + (level_faces_to options.depth mesh + position_steps ByTable options.depth mesh)) c.in_ok-mesh.ensures (omega (arith, composed.most, summary.most)))
    _ _ c.from_residual-in_err-summary.ensures.0 c.from_residual-in_err-summary.ensures.1
    (made-found options c.in_ok-mesh.mesh c.in_ok-mesh.ensures fine _ c.in_err-summary.ensures.summary)

pub returns : goal.returns
returns g c =
    let options = gen_of_code c.args.options.now in
    let fine = c.sheets_are_manifolds.ensures.fine options.seed options.size (omega (arith, c.requires.0)) in
    let composed = c.compose.ensures.steps in
    let summary = c.in_ok-summary.ensures.steps in
    made-replies (Gen options) c.args.steps.now c.summary_at-summary.new.steps (omega (arith, composed.later, summary.later))
    (subst (λ mesh. c.summary_at-summary.new.steps ≤ c.args.steps.now + (level_faces_to options.depth mesh + position_steps ByTable options.depth mesh)) c.in_ok-mesh.ensures (omega (arith, composed.most, summary.most)))
    _ (made-reply options c.in_ok-mesh.mesh c.in_ok-mesh.ensures fine c.in_ok-summary.field-0 c.in_ok-summary.ensures.summary)
    (subst (λ mesh. c.args.steps.now + position_steps ByTable options.depth mesh ≤ c.summary_at-summary.new.steps) c.in_ok-mesh.ensures (omega (arith, composed.later, summary.least)))
