use Rattle.far_engine.proofs.frame_lines.FrameLines.answer.Goals as goal

pub returns-clause-answers : goal.returns-clause-answers
returns-clause-answers g c = λ mesh before is. rw c.line.ensures at (c.answer_line.ensures.answers mesh before is)
