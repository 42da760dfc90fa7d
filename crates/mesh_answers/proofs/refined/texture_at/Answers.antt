use Rattle.std.proofs.Common.{sym, subst}
use Rattle.far_words.specs.View.{refine_of_code}
use Rattle.channel_refine.specs.Refined.{AreRefineSteps}
use Rattle.level_walk.specs.UniformFaults.{IsChannelFault}
use Rattle.mesh_answers.specs.Tracks.{IsTextureFault}
use Rattle.mesh_answers.proofs.TextureLemmas.{texture-controls, texture-failed, texture-refined, texture-taken}
use Rattle.mesh_answers.proofs.ReplyLemmas.{bad-steps, good-steps}
use Rattle.mesh_answers.proofs.refined.texture_at.Goals as goal

pub refine_along-requires-clause-controls : goal.refine_along-requires-clause-controls
refine_along-requires-clause-controls g c =
    let options = refine_of_code c.args.options.now in
    let is = c.requires.base in
    texture-controls c.args.mesh.now options c.args.texture.base c.deref.result.now c.requires.fine is.0 is.1 (rw c.deref.ensures.value is.2)

pub returns-in-Ok-clause-texture : goal.returns-in-Ok-clause-texture
returns-in-Ok-clause-texture g c =
    let options = refine_of_code c.args.options.now in
    let is = c.requires.base in
    texture-refined c.args.mesh.now options c.args.texture.base c.deref.result.now c.requires.fine is.0 is.1 (rw c.deref.ensures.value is.2) c.facts.ensures.texture_common
    c.in-Ok.field-0 c.texture_scale-common.result c.texture_scale-common.ensures (rw (← c.path_of-path.ensures) c.in-Ok.ensures.refined)

pub returns-in-Ok-clause-steps : goal.returns-in-Ok-clause-steps
returns-in-Ok-clause-steps g c =
    let options = refine_of_code c.args.options.now in
    let is = c.requires.base in
    good-steps c.refine_along.result c.in-Ok.field-0 _ c.in-Ok.is
    (texture-taken c.args.mesh.now options c.args.texture.base c.deref.result.now c.requires.fine is.0 is.1 (rw c.deref.ensures.value is.2)
    c.args.steps.now c.refine_along.new.steps c.refine_along.result
    (subst (λ asked. AreRefineSteps asked c.args.texture.base c.args.options.now.depth c.refine_along.result c.args.steps.now c.refine_along.new.steps) c.path_of-path.ensures c.refine_along.ensures.steps))

pub returns-clause-texture : goal.returns-clause-texture
returns-clause-texture g c =
    let options = refine_of_code c.args.options.now in
    let is = c.requires.base in
    subst (IsTextureFault options c.args.mesh.now) (sym c.fault_of_walk.ensures)
    (texture-failed c.args.mesh.now options c.args.texture.base c.deref.result.now c.requires.fine is.0 is.1 (rw c.deref.ensures.value is.2) c.in-Err.fault
    (subst (λ asked. IsChannelFault asked c.args.texture.base c.args.options.now.depth c.in-Err.fault) c.path_of-path.ensures c.in-Err.ensures.refined))

pub returns-clause-steps : goal.returns-clause-steps
returns-clause-steps g c =
    let options = refine_of_code c.args.options.now in
    let is = c.requires.base in
    bad-steps c.refine_along.result _
    (texture-taken c.args.mesh.now options c.args.texture.base c.deref.result.now c.requires.fine is.0 is.1 (rw c.deref.ensures.value is.2)
    c.args.steps.now c.refine_along.new.steps c.refine_along.result
    (subst (λ asked. AreRefineSteps asked c.args.texture.base c.args.options.now.depth c.refine_along.result c.args.steps.now c.refine_along.new.steps) c.path_of-path.ensures c.refine_along.ensures.steps))
