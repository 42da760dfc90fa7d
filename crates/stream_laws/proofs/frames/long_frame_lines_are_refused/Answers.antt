use Rattle.stream_laws.proofs.RuleLemmas.{unclosed-short, long-refused}
use Rattle.stream_laws.proofs.frames.long_frame_lines_are_refused.Goals as goal

pub returns-clause-short : goal.returns-clause-short
returns-clause-short c = λ asked. unclosed-short asked.depth asked.refusal asked.mesh

pub returns-clause-long : goal.returns-clause-long
returns-clause-long c = λ asked before bytes. long-refused asked.depth asked.refusal asked.mesh before.lines bytes before.are
