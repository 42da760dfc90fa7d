use Rattle.far_fault.specs.View.{outcome_of}
use Rattle.far_words.specs.View.{frames_of_code}
use Rattle.far_engine.specs.FrameLines.{RunsFrames, begun}
use Rattle.far_engine.proofs.InputLemmas.{handed-on}
use Rattle.far_engine.proofs.PartLemmas.{part-begins, part-refused}
use Rattle.far_engine.proofs.frames.answer_part.Goals as goal

pub returns-in_err-posed : goal.returns-in_err-posed
returns-in_err-posed g c = λ s is.
    let from = begun g.S.Source g.K.Sink (frames_of_code c.args.options.now) s c.args.sink.now c.args.steps.now in
    handed-on (λ r. RunsFrames from c.args.source.now c.args.sink.now (outcome_of r) c.start.new.steps) _ _ c.from_residual.ensures.0 c.from_residual.ensures.1
    (part-refused g.S.Source g.K.Sink (frames_of_code c.args.options.now) s _ c.args.sink.now c.args.steps.now c.args.part is _ _ c.in_err-posed.ensures)

pub returns : goal.returns
returns g c = λ s is.
    c.answer_lines.ensures _ (part-begins g.S.Source g.K.Sink (frames_of_code c.args.options.now) s _ c.args.sink.now c.args.steps.now c.args.part is _ _ c.in_ok-posed.ensures)
