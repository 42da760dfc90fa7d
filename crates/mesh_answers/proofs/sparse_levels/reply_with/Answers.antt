use Rattle.std.proofs.Common.{ap, subst}
use Rattle.far_model.specs.Answer.{sparse_uv}
use Rattle.far_words.specs.View.{sparse_of_code}
use Rattle.mesh_answers.specs.SparseLevels.{IsSparseBase}
use Rattle.mesh_answers.proofs.SparseReplyLemmas.{points-reply}
use Rattle.mesh_answers.proofs.sparse_levels.reply_with.Goals as goal

pub returns-in-None-clause-reply : goal.returns-in-None-clause-reply
returns-in-None-clause-reply g c =
    let options = sparse_of_code c.args.options.now in
    let made = c.sparse_mesh.ensures in
    points-reply options c.args.mesh.now _ c.requires.levels (subst (IsSparseBase (sparse_uv options c.args.mesh.now) c.args.mesh.now) c.in-None.is c.requires.base) c.requires.range.1
    c.sparse_mesh.result (ap (λ sparse. sparse.levels.items) made) (ap (λ sparse. sparse.common) made) (ap (λ sparse. sparse.decimals) made)
