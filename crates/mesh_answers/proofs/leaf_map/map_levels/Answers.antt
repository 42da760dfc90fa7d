use Rattle.std.proofs.Common.{sym, subst}
use Rattle.far_words.specs.View.{map_of_code}
use Rattle.mesh_answers.specs.Leaves.{map_level_refusal}
use Rattle.mesh_answers.specs.Refusals.{IsFound}
use Rattle.mesh_answers.proofs.LeafLemmas.{map-failed, map-found, map-steps, sparse-base}
use Rattle.mesh_answers.proofs.leaf_map.map_levels.Goals as goal

pub map_sparse-requires-clause-base : goal.map_sparse-requires-clause-base
map_sparse-requires-clause-base g c = sparse-base c.requires.level.0 c.args.level c.requires.level.1

pub returns-in-Ok-clause-found : goal.returns-in-Ok-clause-found
returns-in-Ok-clause-found g c mesh accepted =
    map-found (map_of_code c.args.options.now) mesh c.args.level accepted _ c.requires.test _ c.in-Ok.ensures.map c.in-Ok.ensures.fine

pub returns-in-Ok-clause-steps : goal.returns-in-Ok-clause-steps
returns-in-Ok-clause-steps g c mesh accepted =
    map-steps (map_of_code c.args.options.now) mesh c.args.level accepted _ c.requires.test c.args.steps.now c.map_sparse.new.steps _ c.map_sparse.ensures.steps

pub returns-in-Err-clause-found : goal.returns-in-Err-clause-found
returns-in-Err-clause-found g c mesh accepted =
    subst (λ fault. IsFound fault (map_level_refusal (map_of_code c.args.options.now) mesh)) (sym c.fault_of_walk.ensures)
    (map-failed (map_of_code c.args.options.now) mesh c.args.level accepted _ c.requires.test c.in-Err.fault c.in-Err.ensures.map)

pub returns-in-Err-clause-steps : goal.returns-in-Err-clause-steps
returns-in-Err-clause-steps g c mesh accepted =
    map-steps (map_of_code c.args.options.now) mesh c.args.level accepted _ c.requires.test c.args.steps.now c.map_sparse.new.steps _ c.map_sparse.ensures.steps
