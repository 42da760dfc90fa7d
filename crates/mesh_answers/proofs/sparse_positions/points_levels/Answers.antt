use Rattle.std.proofs.Common.{sym, subst}
use Rattle.far_words.specs.View.{sparse_of_code}
use Rattle.mesh_answers.specs.Refusals.{IsFound}
use Rattle.mesh_answers.specs.SparseLevels.{sparse_position_refusal}
use Rattle.mesh_answers.proofs.SparseLemmas.{sparse-controls, sparse-failed, sparse-found, sparse-steps}
use Rattle.mesh_answers.proofs.sparse_positions.points_levels.Goals as goal

pub refine_sparse-requires-clause-controls : goal.refine_sparse-requires-clause-controls
refine_sparse-requires-clause-controls g c =
    sparse-controls (sparse_of_code c.args.options.now) c.args.mesh.now c.points.result.now c.points.ensures c.args.positions c.requires.base _ c.requires.test

pub returns-in-Ok-clause-levels : goal.returns-in-Ok-clause-levels
returns-in-Ok-clause-levels g c =
    sparse-found (sparse_of_code c.args.options.now) c.args.mesh.now c.points.result.now c.points.ensures c.args.positions c.requires.base _ c.requires.test
    c.requires.mesh c.facts.ensures.common _ c.in-Ok.ensures.refined

pub returns-in-Ok-clause-steps : goal.returns-in-Ok-clause-steps
returns-in-Ok-clause-steps g c =
    sparse-steps (sparse_of_code c.args.options.now) c.args.mesh.now c.points.result.now c.points.ensures c.args.positions c.requires.base _ c.requires.test
    c.args.steps.now c.refine_sparse.new.steps _ c.refine_sparse.ensures.steps

pub returns-in-Err-clause-levels : goal.returns-in-Err-clause-levels
returns-in-Err-clause-levels g c =
    subst (λ fault. IsFound fault (sparse_position_refusal (sparse_of_code c.args.options.now) c.args.mesh.now)) (sym c.fault_of_walk.ensures)
    (sparse-failed (sparse_of_code c.args.options.now) c.args.mesh.now c.points.result.now c.points.ensures c.args.positions c.requires.base _ c.requires.test
    c.in-Err.fault c.in-Err.ensures.refined)

pub returns-in-Err-clause-steps : goal.returns-in-Err-clause-steps
returns-in-Err-clause-steps g c =
    sparse-steps (sparse_of_code c.args.options.now) c.args.mesh.now c.points.result.now c.points.ensures c.args.positions c.requires.base _ c.requires.test
    c.args.steps.now c.refine_sparse.new.steps _ c.refine_sparse.ensures.steps
