use Rattle.stream_laws.proofs.EndLemmas.{handled-stays}
use Rattle.stream_laws.proofs.LawLemmas.{closed-stays, last-stays}
use Rattle.stream_laws.proofs.lines.what_is_written_stays.Goals as goal

pub returns-clause-handled : goal.returns-clause-handled
returns-clause-handled c = λ rule at more. handled-stays more at.is_handled

pub returns-clause-closed : goal.returns-clause-closed
returns-clause-closed c = closed-stays

pub returns-clause-last : goal.returns-clause-last
returns-clause-last c = last-stays
