use Rattle.std.proofs.Common.{length, ◌-◌}
use Rattle.table_answers.proofs.PlaceLemmas.{IsScanned}
use Rattle.table_answers.proofs.place.place_of_table.Given as goal

abbrev pub invariant-loop-start : goal.invariant-loop-start
invariant-loop-start l = IsScanned l.bytes l.start l.lines

abbrev pub decreases-loop-start : goal.decreases-loop-start
decreases-loop-start l = length l.bytes - l.start
