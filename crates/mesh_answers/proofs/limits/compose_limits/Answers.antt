use Rattle.subdiv_model.specs.Limit.{limit_faults}
use Rattle.far_model.specs.Answer.{positions_of, table_faults}
use Rattle.far_fault.specs.View.{fault_of}
use Rattle.mesh_answers.specs.Limits.{AreLimitRows, limit_refusal}
use Rattle.mesh_answers.specs.Refusals.{IsFound}
use Rattle.mesh_answers.proofs.RefusalLemmas.{found-before, handed-on}
use Rattle.mesh_answers.proofs.limits.compose_limits.Goals as goal

pub returns-in_err-composed-clause-limits : goal.returns-in_err-composed-clause-limits
returns-in_err-composed-clause-limits g c =
    let mesh = c.args.mesh.now in
    let depth = c.args.depth in
    handed-on (AreLimitRows mesh depth) (λ fault. IsFound (fault_of fault) (limit_refusal depth mesh)) _ _ c.from_residual.ensures.0 c.from_residual.ensures.1
    (found-before (table_faults depth mesh) (limit_faults (positions_of mesh) depth) mesh _ c.in_err-composed.ensures.composed)
