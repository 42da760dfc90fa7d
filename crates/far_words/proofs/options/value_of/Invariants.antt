use Rattle.std.proofs.Common.{◌≡◌, map, length, string_bytes}
use Rattle.far_model.specs.Words as model
use Rattle.far_words.proofs.options.value_of.Given as goal

-- the words that are left decide
abbrev pub invariant-loop-rest : goal.invariant-loop-rest
invariant-loop-rest l = model.value_of (map string_bytes l.rest) l.name ≡ model.value_of (map string_bytes l.options) l.name

abbrev pub decreases-loop-rest : goal.decreases-loop-rest
decreases-loop-rest l = length l.rest
