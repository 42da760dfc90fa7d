use Rattle.std.proofs.Common.{refl}
use Rattle.stream_laws.specs.Laws.{bytes_to}
use Rattle.stream_laws.proofs.EndLemmas.{not-refused}
use Rattle.stream_laws.proofs.LawLemmas.{long-input}
use Rattle.stream_laws.proofs.lines.pending_bytes_add_nothing.Goals as goal

pub returns-clause-so_far : goal.returns-clause-so_far
returns-clause-so_far c = λ rule at. not-refused (bytes_to at) at.bytes at.before.is_handled at.without_lf refl

pub returns-clause-long : goal.returns-clause-long
returns-clause-long c = long-input
