use Rattle.std.proofs.Common.{ap, ◌+◌}
use Rattle.far_engine.specs.FrameLines.{GoesOn}
use Rattle.far_engine.proofs.FrameLemmas.{stream-ends, stream-goes-on, stream-fails, stream-stops, stream-fails-last}
use Rattle.far_engine.proofs.InputLemmas.{handed-on}
use Rattle.far_engine.proofs.frame_lines.FrameLines.answer_next.Goals as goal

pub returns-in_err-next-clause-went : goal.returns-in_err-next-clause-went
returns-in_err-next-clause-went g c = λ from is.
    handed-on (GoesOn from c.next.new.source c.args.sink.now c.next.new.self c.args.posed.now c.args.steps.now) _ _ c.from_residual.ensures.0 c.from_residual.ensures.1
    (stream-ends g.S.Source g.K.Sink from _ _ _ _ _ is _ _ (c.in_err-next.ensures.moved _ _ _ _ is.read))

pub returns-in_ok-answer-in-Closed-clause-went : goal.returns-in_ok-answer-in-Closed-clause-went
returns-in_ok-answer-in-Closed-clause-went g c = λ from is.
    stream-goes-on g.S.Source g.K.Sink from _ _ _ _ _ is _ _ _ (ap (λ n. n + 1) c.next.ensures.passed) _ _ _ c.answer.ensures.later (rw c.in-Closed.is at (c.in_ok-next.ensures.moved _ _ _ _ is.read))
    c.answer.new.self c.answer.ensures.reader c.answer.ensures.passed (c.in_ok-answer-in-Closed.ensures.answers _ _ is.posed_after)

pub returns-in_err-answer-in-Closed-clause-went : goal.returns-in_err-answer-in-Closed-clause-went
returns-in_err-answer-in-Closed-clause-went g c = λ from is.
    handed-on (GoesOn from c.next.new.source c.answer.new.sink c.answer.new.self c.answer.new.posed c.answer.new.steps) _ _
    c.from_residual-in_err-answer-in-Closed.ensures.0 c.from_residual-in_err-answer-in-Closed.ensures.1
    (stream-fails g.S.Source g.K.Sink from _ _ _ _ _ is _ _ _ (ap (λ n. n + 1) c.next.ensures.passed) _ _ _ c.answer.ensures.later (rw c.in-Closed.is at (c.in_ok-next.ensures.moved _ _ _ _ is.read))
    _ (c.in_err-answer-in-Closed.ensures.answers _ _ is.posed_after))

pub returns-in_ok-answer-in-Last-clause-went : goal.returns-in_ok-answer-in-Last-clause-went
returns-in_ok-answer-in-Last-clause-went g c = λ from is.
    stream-stops g.S.Source g.K.Sink from _ _ _ _ _ is _ _ _ (ap (λ n. n + 1) c.next.ensures.passed) _ _ _ c.answer-in-Last.ensures.later (rw c.in-Last.is at (c.in_ok-next.ensures.moved _ _ _ _ is.read))
    (c.in_ok-answer-in-Last.ensures.answers _ _ is.posed_after)

pub returns-in_err-answer-in-Last-clause-went : goal.returns-in_err-answer-in-Last-clause-went
returns-in_err-answer-in-Last-clause-went g c = λ from is.
    handed-on (GoesOn from c.next.new.source c.answer-in-Last.new.sink c.answer-in-Last.new.self c.answer-in-Last.new.posed c.answer-in-Last.new.steps) _ _
    c.from_residual-in_err-answer-in-Last.ensures.0 c.from_residual-in_err-answer-in-Last.ensures.1
    (stream-fails-last g.S.Source g.K.Sink from _ _ _ _ _ is _ _ _ (ap (λ n. n + 1) c.next.ensures.passed) _ _ _ c.answer-in-Last.ensures.later (rw c.in-Last.is at (c.in_ok-next.ensures.moved _ _ _ _ is.read))
    _ (c.in_err-answer-in-Last.ensures.answers _ _ is.posed_after))

pub returns-in-End-clause-went : goal.returns-in-End-clause-went
returns-in-End-clause-went g c = λ from is.
    stream-ends g.S.Source g.K.Sink from _ _ _ _ _ is _ _ (rw c.in-End.is at (c.in_ok-next.ensures.moved _ _ _ _ is.read))
