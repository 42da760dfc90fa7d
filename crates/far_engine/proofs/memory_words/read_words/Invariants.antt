use Rattle.std.proofs.Common.{◌≡◌, ◌++◌, map, length, option_map, string_bytes}
use Rattle.std.specs.List.{slice_split}
use Rattle.far_engine.specs.MemoryWords.{is_zero, words_of_parts}
use Rattle.far_engine.proofs.memory_words.read_words.Given as goal

-- the words so far, and those of the bytes that are left
abbrev pub invariant-loop-at : goal.invariant-loop-at
invariant-loop-at l =
    words_of_parts (slice_split is_zero l.bytes)
    ≡ option_map (λ more. map string_bytes l.words.items ++ more) (words_of_parts (slice_split is_zero l.rest))

abbrev pub decreases-loop-at : goal.decreases-loop-at
decreases-loop-at l = length l.rest
