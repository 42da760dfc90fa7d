use Rattle.table_answers.proofs.FrameStartLemmas.{table-within, started, refused}
use Rattle.table_answers.proofs.posed.PosedMesh.start.Goals as goal

pub at_rest-requires : goal.at_rest-requires
at_rest-requires g c = table-within c.args.mesh.now c.args.depth c.in_ok-composed.composed c.in_ok-composed.ensures.composed

pub returns-in_err-composed : goal.returns-in_err-composed
returns-in_err-composed g c =
    let steps = c.in_err-composed.ensures.steps in
    refused c.args.mesh.now c.args.depth (λ posed. posed) c.from_residual.result c.in_err-composed.field-0.0 c.args.steps.now c.compose.new.steps
    c.from_residual.ensures.0 c.from_residual.ensures.1 c.in_err-composed.ensures.composed steps.later steps.most

pub returns : goal.returns
returns g c =
    let steps = c.in_ok-composed.ensures.steps in
    started c.args.mesh.now c.args.depth (λ posed. posed) c.at_rest.result c.args.steps.now c.compose.new.steps c.at_rest.new.steps
    c.in_ok-composed.ensures.composed.good c.at_rest.ensures.posed steps.later steps.most c.at_rest.ensures.steps
