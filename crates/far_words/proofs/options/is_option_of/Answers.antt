use Rattle.std.proofs.Common.{arith, map}
use Rattle.far_words.specs.View.{option_of_code}
use Rattle.far_words.proofs.OptionLemmas.{no-equals, parts-of-option}
use Rattle.far_words.proofs.options.is_option_of.Goals as goal

pub returns-in-Some : goal.returns-in-Some
returns-in-Some c =
    let parts = c.in-Some.ensures.byte (omega arith) (λ w o h. h) in
    parts-of-option (map option_of_code c.args.rules.now) c.args.word.now c.in-Some.name.now c.in-Some.value.now c.some_rule_allows.result parts.2 parts.0 parts.1
    c.some_rule_allows.ensures

pub returns-in-None : goal.returns-in-None
returns-in-None c = no-equals (map option_of_code c.args.rules.now) c.args.word.now (c.in-None.ensures.byte (omega arith) (λ w o h. h))
