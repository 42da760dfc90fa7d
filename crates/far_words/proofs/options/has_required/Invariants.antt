use Rattle.std.proofs.Common.{◌≡◌, map, length, string_bytes}
use Rattle.far_model.specs.Words as model
use Rattle.far_words.specs.View.{option_of_code}
use Rattle.far_words.proofs.options.has_required.Given as goal

-- the options that are left decide
abbrev pub invariant-loop-rest : goal.invariant-loop-rest
invariant-loop-rest l = model.has_required (map option_of_code l.rest) (map string_bytes l.options) ≡ model.has_required (map option_of_code l.rules) (map string_bytes l.options)

abbrev pub decreases-loop-rest : goal.decreases-loop-rest
decreases-loop-rest l = length l.rest
