use Rattle.stream_laws.proofs.HandledLemmas.{handled-none, handled-more}
use Rattle.stream_laws.proofs.lines.lines_are_handled_one_by_one.Goals as goal

pub returns-clause-none : goal.returns-clause-none
returns-clause-none c = λ rule. handled-none

pub returns-clause-more : goal.returns-clause-more
returns-clause-more c = λ rule at text. handled-more at.before.is_handled at.without_lf
