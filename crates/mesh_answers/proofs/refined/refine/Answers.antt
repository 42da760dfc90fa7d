use Rattle.std.proofs.Common.{refl}
use Rattle.far_words.specs.View.{refine_of_code}
use Rattle.mesh_answers.proofs.EndLemmas.{positions-end, refined-end}
use Rattle.mesh_answers.proofs.refined.refine.Goals as goal

pub returns-in_err-refined : goal.returns-in_err-refined
returns-in_err-refined g c =
    let tracks = c.in_ok-positions.ensures.tracks in
    positions-end c.args.mesh.now (refine_of_code c.args.options.now) c.args.steps.now c.base_tracks.new.steps c.positions_at.new.steps _ c.base_tracks.ensures.steps
    _ c.positions_at.ensures.steps tracks.fine _ _ c.from_residual-in_err-refined.ensures.0 c.from_residual-in_err-refined.ensures.1 c.in_err-refined.ensures.positions

pub returns : goal.returns
returns g c =
    refined-end c.args.mesh.now (refine_of_code c.args.options.now) c.args.steps.now c.base_tracks.new.steps c.positions_at.new.steps _ c.base_tracks.ensures.steps
    _ c.in_ok-refined.ensures.steps c.in_ok-refined.refined refl _ c.reply_with.new.steps c.reply_with.ensures.reply c.reply_with.ensures.steps
