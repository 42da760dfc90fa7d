use Rattle.std.proofs.Common.{◌≡◌, ◌&&◌, map, length, bytes_eq}
use Rattle.std.specs.List.{list_any}
use Rattle.far_model.specs.Words.{is_value}
use Rattle.far_words.specs.View.{option_of_code}
use Rattle.far_words.proofs.options.some_rule_allows.Given as goal

-- the options that are left decide
abbrev pub invariant-loop-rest : goal.invariant-loop-rest
invariant-loop-rest l = list_any (λ rule. bytes_eq l.name rule.name && is_value rule.kind l.value) (map option_of_code l.rest) ≡ list_any (λ rule. bytes_eq l.name rule.name && is_value rule.kind l.value) (map option_of_code l.rules)

abbrev pub decreases-loop-rest : goal.decreases-loop-rest
decreases-loop-rest l = length l.rest
