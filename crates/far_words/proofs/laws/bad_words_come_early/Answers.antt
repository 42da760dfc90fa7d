use Rattle.far_model.specs.Words.{rule_named}
use Rattle.far_words.proofs.GoodOptionLemmas.{early-word}
use Rattle.far_words.proofs.laws.bad_words_come_early.Goals as goal

pub returns : goal.returns
returns c = λ words. early-word (rule_named words.table words.command) words.options words.rule words.bad_word words.named words.refused
