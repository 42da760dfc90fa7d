use Rattle.std.proofs.Common.{sym, subst}
use Rattle.far_model.specs.Answer.{composition_refusal}
use Rattle.subdiv_model.specs.ReadObj.{obj_lines}
use Rattle.far_fault.specs.View.{fault_of}
use Rattle.mesh_answers.specs.Refusals.{IsFound}
use Rattle.mesh_answers.proofs.TextLemmas.{composition-refusal}
use Rattle.table_answers.specs.Answers.{IsOwn}
use Rattle.table_answers.proofs.VerifyLemmas.{handed-refusal, own-composed, own-steps}
use Rattle.table_answers.proofs.verified.own_table.Goals as goal

pub returns-in_err-composed-clause-own : goal.returns-in_err-composed-clause-own
returns-in_err-composed-clause-own g c =
    handed-refusal (IsOwn c.args.text.now c.args.depth) _ c.in_err-composed.field-0.0 (composition_refusal c.args.depth 0 (obj_lines c.args.text.now))
    c.from_residual-in_err-composed.ensures.0 c.from_residual-in_err-composed.ensures.1
    (subst (IsFound (fault_of c.in_err-composed.field-0.0)) (sym (composition-refusal c.args.depth 0 c.args.text.now c.in_ok-mesh.mesh c.in_ok-mesh.ensures)) c.in_err-composed.ensures.composed)

pub returns-in_err-composed-clause-steps : goal.returns-in_err-composed-clause-steps
returns-in_err-composed-clause-steps g c =
    let steps = c.compose.ensures.steps in
    own-steps c.args.text.now c.in_ok-mesh.mesh c.in_ok-mesh.ensures c.args.depth _ c.args.steps.now c.compose.new.steps steps.later steps.most

pub returns-clause-own : goal.returns-clause-own
returns-clause-own g c = own-composed c.args.text.now c.in_ok-mesh.mesh c.in_ok-mesh.ensures c.args.depth c.in_ok-composed.composed c.in_ok-composed.ensures.composed
