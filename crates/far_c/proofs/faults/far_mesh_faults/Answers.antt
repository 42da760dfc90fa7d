use Rattle.std.proofs.Common.{rules}
use Rattle.far_c.proofs.RefusalLemmas.{none-kept, no-mesh-status}
use Rattle.far_c.proofs.faults.far_mesh_faults.Goals as goal

pub returns-in-Err-clause-answer : goal.returns-in-Err-clause-answer
returns-in-Err-clause-answer c =
    let many = no-mesh-status c.args.mesh.now c.in-Err.found c.in-Err.ensures in
    search (rules, many)

pub returns-in-Err-clause-stays : goal.returns-in-Err-clause-stays
returns-in-Err-clause-stays c =
    let none = none-kept c.in-Err.found.status (no-mesh-status c.args.mesh.now c.in-Err.found c.in-Err.ensures) in
    search (rules, none)
