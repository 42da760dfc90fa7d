use Rattle.far_fault.specs.View.{outcome_of}
use Rattle.far_words.specs.View.{frames_of_code}
use Rattle.far_engine.specs.FrameLines.{RunsFrames, begun}
use Rattle.far_engine.proofs.InputLemmas.{handed-on}
use Rattle.far_engine.proofs.PartLemmas.{part-counts, part-fails}
use Rattle.far_engine.proofs.frames.run_frames.Goals as goal

pub returns-in_err-part : goal.returns-in_err-part
returns-in_err-part g c =
    let from = begun g.S.Source g.K.Sink (frames_of_code c.args.options.now) c.args.source.now c.args.sink.now c.args.steps.now in
    handed-on (λ r. RunsFrames from c.read_part.new.source c.args.sink.now (outcome_of r) c.args.steps.now) _ _ c.from_residual.ensures.0 c.from_residual.ensures.1
    (part-fails g.S.Source g.K.Sink (frames_of_code c.args.options.now) _ _ c.args.sink.now c.args.steps.now _ c.in_err-part.ensures)

pub answer_part-requires-clause-counted : goal.answer_part-requires-clause-counted
answer_part-requires-clause-counted g c = part-counts g.S.Source (frames_of_code c.args.options.now) _ _ c.in_ok-part.part c.in_ok-part.ensures
