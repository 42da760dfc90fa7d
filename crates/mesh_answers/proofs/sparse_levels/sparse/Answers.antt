use Rattle.std.proofs.Common.{arith}
use Rattle.far_model.specs.Answer.{sparse_mesh_faults}
use Rattle.far_model.specs.Command.{Sparse}
use Rattle.far_words.specs.View.{sparse_of_code}
use Rattle.mesh_answers.proofs.ReplyLemmas.{refuses}
use Rattle.mesh_answers.proofs.SparseReplyLemmas.{sparse-end}
use Rattle.mesh_answers.proofs.sparse_levels.sparse.Goals as goal

pub returns-in_err-tracks : goal.returns-in_err-tracks
returns-in_err-tracks g c =
    let options = sparse_of_code c.args.options.now in
    let tracks = c.sparse_tracks.ensures.steps in
    refuses (Sparse options) c.args.mesh.now c.args.steps.now c.sparse_tracks.new.steps tracks.later (omega (arith, tracks.most)) _ _
    c.from_residual.ensures.0 c.from_residual.ensures.1 (c.in_err-tracks.ensures.tracks (sparse_mesh_faults options c.args.mesh.now))

pub returns : goal.returns
returns g c =
    let tracks = c.sparse_tracks.ensures.steps in
    sparse-end (sparse_of_code c.args.options.now) c.args.mesh.now c.args.steps.now c.sparse_tracks.new.steps c.sparse_from.new.steps _
    tracks.later tracks.most c.sparse_from.ensures.reply c.sparse_from.ensures.steps
