use Rattle.std.proofs.Common.{◌≡◌, length}
use Rattle.far_model.specs.Words as words
use Rattle.far_words.specs.View.{table_of_code}
use Rattle.far_words.proofs.read.rule_named.Given as goal

-- the commands that are left decide
abbrev pub invariant-loop-rest : goal.invariant-loop-rest
invariant-loop-rest l = words.rule_named (table_of_code l.rest) l.name ≡ words.rule_named (table_of_code l.table) l.name

abbrev pub decreases-loop-rest : goal.decreases-loop-rest
decreases-loop-rest l = length l.rest
