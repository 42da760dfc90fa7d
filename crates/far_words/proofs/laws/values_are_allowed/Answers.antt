use Rattle.far_model.specs.Words.{rule_named}
use Rattle.far_words.proofs.ValueLemmas.{allowed-of-rule, required-of-rule}
use Rattle.far_words.proofs.laws.values_are_allowed.Goals as goal

pub returns-clause-allowed : goal.returns-clause-allowed
returns-clause-allowed c = λ words name value h.
    allowed-of-rule (rule_named words.table words.command) words.options words.rule name value words.named words.understood h

pub returns-clause-required : goal.returns-clause-required
returns-clause-required c = λ words. required-of-rule (rule_named words.table words.command) words.options words.rule words.named words.understood
