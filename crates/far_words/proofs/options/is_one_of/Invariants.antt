use Rattle.std.proofs.Common.{◌≡◌, map, length, bytes_eq}
use Rattle.std.specs.List.{list_any}
use Rattle.far_words.proofs.options.is_one_of.Given as goal

-- the names that are left decide
abbrev pub invariant-loop-rest : goal.invariant-loop-rest
invariant-loop-rest l = list_any (bytes_eq l.value) (map (λ name. name.now) l.rest) ≡ list_any (bytes_eq l.value) (map (λ name. name.now) l.names)

abbrev pub decreases-loop-rest : goal.decreases-loop-rest
decreases-loop-rest l = length l.rest
