use Rattle.far_fault.specs.View.{outcome_of}
use Rattle.far_engine.specs.FrameLines.{RunsFrames}
use Rattle.far_engine.proofs.FrameLemmas.{stopped}
use Rattle.far_engine.proofs.InputLemmas.{handed-on}
use Rattle.far_engine.proofs.frame_lines.FrameLines.answer_all.Goals as goal

pub returns-in_err-more : goal.returns-in_err-more
returns-in_err-more g c = λ from is.
    handed-on (λ r. RunsFrames from c.answer_next.new.source c.answer_next.new.sink (outcome_of r) c.answer_next.new.steps) _ _
    c.from_residual.ensures.0 c.from_residual.ensures.1 (c.in_err-more.ensures.went from (c.loop-more.invariant.streaming from is))

pub returns-then-not-more : goal.returns-then-not-more
returns-then-not-more g c = λ from is.
    stopped g.S.Source g.K.Sink from _ _ _ _ _ _ c.if-not-more.true (c.in_ok-more.ensures.went from (c.loop-more.invariant.streaming from is))
