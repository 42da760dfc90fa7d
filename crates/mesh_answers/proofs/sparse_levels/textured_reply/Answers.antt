use Rattle.std.proofs.Common.{arith, refl}
use Rattle.far_words.specs.View.{sparse_of_code}
use Rattle.mesh_answers.proofs.ReplyLemmas.{any-steps}
use Rattle.mesh_answers.proofs.SparseReplyLemmas.{textured-replied, textured-reply}
use Rattle.mesh_answers.proofs.sparse_levels.textured_reply.Goals as goal

pub returns-clause-reply : goal.returns-clause-reply
returns-clause-reply g c =
    let options = sparse_of_code c.args.options.now in
    textured-replied options c.args.mesh.now _ c.requires.levels c.texture_like-texture.result c.with_texture.result _ _ c.with_texture.ensures c.texture_like-texture.ensures.levels
    (λ texture is. textured-reply options c.args.mesh.now _ c.requires.levels is.0 is.1 _ is.2 c.requires.range.1 _ refl refl refl refl refl)

pub returns-clause-steps : goal.returns-clause-steps
returns-clause-steps g c =
    let taken = c.texture_like-texture.ensures.steps in
    any-steps _ _ _ 0 _ (omega (arith, taken.later)) taken.later taken.most
