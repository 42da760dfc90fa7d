use Rattle.std.proofs.Common.{sym, subst}
use Rattle.far_words.specs.View.{uv_of_code}
use Rattle.mesh_answers.specs.Refusals.{IsFound}
use Rattle.mesh_answers.specs.Textures.{texture_refusal}
use Rattle.mesh_answers.proofs.TextureTableLemmas.{texture-composed, texture-failed, texture-steps}
use Rattle.mesh_answers.proofs.texture_table.table_of_texture.Goals as goal

pub returns-in-Ok-clause-composed : goal.returns-in-Ok-clause-composed
returns-in-Ok-clause-composed g c =
    texture-composed (uv_of_code c.args.uv) c.args.depth c.args.mesh.now c.requires.fine c.requires.textured c.args.base c.requires.base
    c.in-Ok.composed c.in-Ok.ensures.composed c.facts.ensures

pub returns-in-Ok-clause-steps : goal.returns-in-Ok-clause-steps
returns-in-Ok-clause-steps g c =
    texture-steps (uv_of_code c.args.uv) c.args.depth c.args.mesh.now c.args.base c.requires.base c.args.steps.now c.compose_channel.new.steps _ c.compose_channel.ensures.steps

pub returns-in-Err-clause-composed : goal.returns-in-Err-clause-composed
returns-in-Err-clause-composed g c =
    let uv = uv_of_code c.args.uv in
    subst (λ fault. IsFound fault (texture_refusal uv c.args.depth c.args.mesh.now)) (sym c.fault_of_walk.ensures)
    (texture-failed uv c.args.depth c.args.mesh.now c.requires.fine c.requires.textured c.args.base c.requires.base c.in-Err.fault c.in-Err.ensures.composed)

pub returns-in-Err-clause-steps : goal.returns-in-Err-clause-steps
returns-in-Err-clause-steps g c =
    texture-steps (uv_of_code c.args.uv) c.args.depth c.args.mesh.now c.args.base c.requires.base c.args.steps.now c.compose_channel.new.steps _ c.compose_channel.ensures.steps
