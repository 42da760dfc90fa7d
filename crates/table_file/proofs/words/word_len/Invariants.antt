use Rattle.std.proofs.Common.{◌≡◌, ℕ, ◌<◌, false, get_or}
use Rattle.table_file.specs.Words.{is_space}
use Rattle.table_file.proofs.words.word_len.Given as goal

-- no byte so far is a space
abbrev pub invariant-loop-i : goal.invariant-loop-i
invariant-loop-i l = (k : ℕ) → k < l.i → is_space (get_or l.line k 0) ≡ false
