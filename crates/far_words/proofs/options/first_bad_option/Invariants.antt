use Rattle.std.proofs.Common.{◌≡◌, map, string_bytes, None}
use Rattle.std.specs.List.{find, range_with_len}
use Rattle.far_model.specs.Words.{is_bad_option}
use Rattle.far_words.specs.View.{option_of_code}
use Rattle.far_words.proofs.options.first_bad_option.Given as goal

-- no option so far is bad
abbrev pub invariant-loop-place : goal.invariant-loop-place
invariant-loop-place l = find (is_bad_option (map option_of_code l.rules) (map string_bytes l.options)) (range_with_len 0 l.place) ≡ None
