use Rattle.far_model.specs.Words.{rule_named}
use Rattle.far_words.proofs.OrderLemmas.{usage-order, reading-order}
use Rattle.far_words.proofs.laws.options_go_in_any_order.Goals as goal

pub returns-clause-understood : goal.returns-clause-understood
returns-clause-understood c = λ words. usage-order (rule_named words.table words.command) words.options words.others words.reordered words.understood

pub returns-clause-same : goal.returns-clause-same
returns-clause-same c = λ words. reading-order words.table words.command words.options words.others words.reordered words.understood
