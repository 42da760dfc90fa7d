use Rattle.stream_laws.proofs.LawLemmas.{refused-closed, refused-last}
use Rattle.stream_laws.proofs.lines.refused_lines_end_the_answer.Goals as goal

pub returns-clause-closed : goal.returns-clause-closed
returns-clause-closed c = refused-closed

pub returns-clause-last : goal.returns-clause-last
returns-clause-last c = λ rule at some limit. refused-last rule at limit some
