use Rattle.std.proofs.Common.{◌≡◌, length}
use Rattle.table_file.specs.Words.{words_left, are_number_pairs}
use Rattle.table_file.proofs.row.are_pairs.Given as goal

-- the rest of the words decides for all words
abbrev pub invariant-loop-control : goal.invariant-loop-control
invariant-loop-control l = are_number_pairs (words_left l.words) ≡ are_number_pairs (words_left l.fn.words)

abbrev pub decreases-loop-control : goal.decreases-loop-control
decreases-loop-control l = length (words_left l.words)
