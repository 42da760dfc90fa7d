use Rattle.std.proofs.Common.{refl}
use Rattle.stream_laws.specs.Laws.{bytes_of}
use Rattle.stream_laws.proofs.EndLemmas.{ended}
use Rattle.stream_laws.proofs.LawLemmas.{end-of-line}
use Rattle.stream_laws.proofs.lines.the_end_comes_last.Goals as goal

pub returns-clause-closed : goal.returns-clause-closed
returns-clause-closed c = λ rule at limit fits. ended limit (bytes_of at.lines) at.refusal at.lines.is_handled refl fits at.ended

pub returns-clause-last : goal.returns-clause-last
returns-clause-last c = end-of-line
