use Rattle.far_engine.specs.FrameLines.{CanCount, IsStreaming, Origin, bytes_left}
use Rattle.far_engine.proofs.frame_lines.FrameLines.answer_all.Given as goal

-- all lines so far are answered, for any start of the run
abbrev pub invariant-loop-more : goal.invariant-loop-more
invariant-loop-more g l = record {
  counted : CanCount l.self;
  streaming : (from : Origin g.S.Source g.K.Sink) → IsStreaming from l.fn.source l.fn.sink l.fn.self l.fn.posed l.fn.steps
      → IsStreaming from l.source l.sink l.self l.posed l.steps;
}

abbrev pub decreases-loop-more : goal.decreases-loop-more
decreases-loop-more g l = bytes_left l.self
