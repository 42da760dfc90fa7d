use Rattle.std.proofs.Common.{◌≡◌, true, ◌++◌, length}
use Rattle.std.specs.List.{list_all}
use Rattle.subdiv_model.specs.Digits.{is_number_word}
use Rattle.subdiv_model.specs.ReadTable.{are_shares_in_range, shares_of_words}
use Rattle.stencil_apply.specs.Arrays.{shares_of}
use Rattle.table_file.specs.Words.{words_left}
use Rattle.table_file.proofs.row.read_shares.Given as goal

-- the entries so far, with those to come, are all
abbrev pub invariant-loop-control : goal.invariant-loop-control
invariant-loop-control l = record {
  numbers : list_all is_number_word (words_left l.words) ≡ true;
  range : are_shares_in_range l.controls l.least (shares_of_words (words_left l.words)) ≡ are_shares_in_range l.controls 0 (shares_of_words (words_left l.fn.words));
  shares : shares_of l.row.items ++ shares_of_words (words_left l.words) ≡ shares_of_words (words_left l.fn.words);
}

abbrev pub decreases-loop-control : goal.decreases-loop-control
decreases-loop-control l = length (words_left l.words)
