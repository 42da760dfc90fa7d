use Rattle.subdiv_model.specs.Patch.{patch_faults}
use Rattle.far_model.specs.Answer.{positions_of, table_faults}
use Rattle.far_fault.specs.View.{fault_of}
use Rattle.far_words.specs.View.{patch_of_code}
use Rattle.mesh_answers.specs.Patches.{ArePatchRows, patch_refusal}
use Rattle.mesh_answers.specs.Refusals.{IsFound}
use Rattle.mesh_answers.proofs.RefusalLemmas.{found-before, handed-on}
use Rattle.mesh_answers.proofs.patches.compose_patch.Goals as goal

pub returns-in_err-composed-clause-rows : goal.returns-in_err-composed-clause-rows
returns-in_err-composed-clause-rows g c =
    let mesh = c.args.mesh.now in
    let options = patch_of_code c.args.options.now in
    handed-on (ArePatchRows options mesh) (λ fault. IsFound (fault_of fault) (patch_refusal options mesh)) _ _ c.from_residual.ensures.0 c.from_residual.ensures.1
    (found-before (table_faults options.depth mesh) (patch_faults (positions_of mesh) options.depth options.face options.grid) mesh _ c.in_err-composed.ensures.composed)
