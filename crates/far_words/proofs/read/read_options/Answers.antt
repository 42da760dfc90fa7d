use Rattle.std.proofs.Common.{◌≡◌, Some, map, string_bytes, arith, sym, ◌∙◌}
use Rattle.std.proofs.lemmas.List.{length-map}
use Rattle.far_model.specs.Words.{first_bad_option}
use Rattle.far_words.specs.View.{rule_of_code, option_of_code}
use Rattle.far_words.proofs.ReadLemmas.{small-numbers, few-rules}
use Rattle.far_words.proofs.GoodOptionLemmas.{length-IsGood, early-of-some, good-of-none}
use Rattle.far_words.proofs.read.read_options.Goals as goal

pub overflow_cast-result : goal.overflow_cast-result
overflow_cast-result c =
    let rules = map option_of_code c.args.rule.now.options.now in
    let options = map string_bytes c.args.options.now in
    let found : first_bad_option rules options ≡ Some c.in-Some.place = sym c.first_bad_option.ensures ∙ c.in-Some.is in
    omega (arith, few-rules (rule_of_code c.args.rule.now) c.requires, early-of-some rules options c.in-Some.place found)

pub overflow_add-result : goal.overflow_add-result
overflow_add-result c =
    let rules = map option_of_code c.args.rule.now.options.now in
    let options = map string_bytes c.args.options.now in
    let found : first_bad_option rules options ≡ Some c.in-Some.place = sym c.first_bad_option.ensures ∙ c.in-Some.is in
    omega (arith, few-rules (rule_of_code c.args.rule.now) c.requires, early-of-some rules options c.in-Some.place found)

pub overflow_cast-result-then-not-has_required : goal.overflow_cast-result-then-not-has_required
overflow_cast-result-then-not-has_required c =
    let rules = map option_of_code c.args.rule.now.options.now in
    let options = map string_bytes c.args.options.now in
    let good = good-of-none rules options (sym c.first_bad_option.ensures ∙ c.in_default.is) in
    omega (arith, few-rules (rule_of_code c.args.rule.now) c.requires, length-map c.args.options.now string_bytes, length-IsGood rules options good)

pub overflow_add-result-then-not-has_required : goal.overflow_add-result-then-not-has_required
overflow_add-result-then-not-has_required c =
    let rules = map option_of_code c.args.rule.now.options.now in
    let options = map string_bytes c.args.options.now in
    let good = good-of-none rules options (sym c.first_bad_option.ensures ∙ c.in_default.is) in
    omega (arith, few-rules (rule_of_code c.args.rule.now) c.requires, length-map c.args.options.now string_bytes, length-IsGood rules options good)

pub command_named-requires : goal.command_named-requires
command_named-requires c =
    small-numbers (rule_of_code c.args.rule.now) (map string_bytes c.args.options.now) c.requires (sym c.first_bad_option.ensures ∙ c.in_default.is)
