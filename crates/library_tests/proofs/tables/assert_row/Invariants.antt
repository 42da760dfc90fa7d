use Rattle.std.proofs.Common.{length}
use Rattle.library_tests.proofs.RowLemmas.{AreLeft}
use Rattle.library_tests.proofs.tables.assert_row.Given as goal

-- if the entries from here on pass, all do
abbrev pub invariant-loop-rest : goal.invariant-loop-rest
invariant-loop-rest g l = AreLeft l.controls l.next l.left l.rest → AreLeft l.controls 0 l.den l.row

abbrev pub decreases-loop-rest : goal.decreases-loop-rest
decreases-loop-rest g l = length l.rest
