use Rattle.far_fault.specs.View.{fault_of}
use Rattle.far_words.specs.View.{sparse_of_code}
use Rattle.mesh_answers.specs.Refusals.{IsFound, refusal_by}
use Rattle.mesh_answers.specs.SparseLevels.{ArePointsLevels, sparse_position_faults}
use Rattle.mesh_answers.proofs.RefusalLemmas.{handed-on}
use Rattle.mesh_answers.proofs.SparseLemmas.{positions-untextured}
use Rattle.mesh_answers.proofs.sparse_positions.sparse_points.Goals as goal

pub returns-in_err-level-clause-levels : goal.returns-in_err-level-clause-levels
returns-in_err-level-clause-levels g c =
    let options = sparse_of_code c.args.options.now in
    handed-on (λ levels. ArePointsLevels options c.args.mesh.now levels.items)
    (λ fault. IsFound (fault_of fault) (refusal_by (sparse_position_faults options c.args.mesh.now) c.args.mesh.now)) _ _
    c.from_residual.ensures.0 c.from_residual.ensures.1 (c.in_err-level.ensures.checked (sparse_position_faults options c.args.mesh.now))

pub returns-clause-levels : goal.returns-clause-levels
returns-clause-levels g c =
    let accepted = c.in_ok-level.ensures.checked in
    positions-untextured (sparse_of_code c.args.options.now) c.args.mesh.now (record { manifold = accepted.manifold; small = accepted.small }) _ c.selected_points.ensures.levels
