use Rattle.far_words.specs.View.{sparse_of_code}
use Rattle.mesh_answers.proofs.SparseTextureLemmas.{texture-controls, texture-found, texture-selection, texture-steps}
use Rattle.mesh_answers.proofs.sparse_levels.texture_levels.Goals as goal

pub refine_sparse_texture-requires-clause-controls : goal.refine_sparse_texture-requires-clause-controls
refine_sparse_texture-requires-clause-controls g c =
    let is = c.requires.base in
    texture-controls (sparse_of_code c.args.options.now) c.args.mesh.now is.0 is.1 c.deref.result.now (rw c.deref.ensures.value is.3) c.args.texture.base is.2 _ c.requires.numbers

pub refine_sparse_texture-requires-clause-selection : goal.refine_sparse_texture-requires-clause-selection
refine_sparse_texture-requires-clause-selection g c =
    let is = c.requires.base in
    texture-selection (sparse_of_code c.args.options.now) c.args.mesh.now is.0 is.1 c.deref.result.now (rw c.deref.ensures.value is.3) c.args.texture.base is.2 _ c.requires.numbers

pub returns-in-Ok-clause-levels : goal.returns-in-Ok-clause-levels
returns-in-Ok-clause-levels g c =
    let is = c.requires.base in (
      is.0,
      is.1,
      texture-found (sparse_of_code c.args.options.now) c.args.mesh.now is.0 is.1 c.deref.result.now (rw c.deref.ensures.value is.3) c.args.texture.base is.2 _ c.requires.numbers
          c.facts.ensures.texture_common _ c.in-Ok.ensures.refined,
    )

pub returns-in-Ok-clause-steps : goal.returns-in-Ok-clause-steps
returns-in-Ok-clause-steps g c =
    let is = c.requires.base in
    texture-steps (sparse_of_code c.args.options.now) c.args.mesh.now is.0 is.1 c.deref.result.now (rw c.deref.ensures.value is.3) c.args.texture.base is.2 _ c.requires.numbers
    c.args.steps.now c.refine_sparse_texture.new.steps _ c.refine_sparse_texture.ensures.steps
