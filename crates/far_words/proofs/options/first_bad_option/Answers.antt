use Rattle.std.proofs.Common.{map, string_bytes, length, arith, sym, ◌∙◌}
use Rattle.std.proofs.lemmas.List.{length-map}
use Rattle.far_model.specs.Words.{is_bad_option}
use Rattle.far_words.specs.View.{option_of_code}
use Rattle.far_words.proofs.ListLemmas.{find-more, find-here}
use Rattle.far_words.proofs.OptionLemmas.{bad-at-place}
use Rattle.far_words.proofs.options.first_bad_option.Goals as goal

pub returns-then-is_bad_option : goal.returns-then-is_bad_option
returns-then-is_bad_option c =
    let rules = map option_of_code c.args.rules.now in
    let here = bad-at-place string_bytes rules c.args.options.now c.loop-place.place c.index-options-place.result c.as_str.result.now
    c.loop-place-test.true c.index-options-place.is c.as_str.ensures.value in
    find-here (is_bad_option rules (map string_bytes c.args.options.now)) c.loop-place.place (length (map string_bytes c.args.options.now))
    c.loop-place.invariant (sym here ∙ sym c.is_bad_option.ensures ∙ c.if-is_bad_option.true)
    (omega (arith, length-map c.args.options.now string_bytes, c.loop-place-test.true))

pub loop-place-preserved : goal.loop-place-preserved
loop-place-preserved c =
    let rules = map option_of_code c.args.rules.now in
    let here = bad-at-place string_bytes rules c.args.options.now c.loop-place.place c.index-options-place.result c.as_str.result.now
    c.loop-place-test.true c.index-options-place.is c.as_str.ensures.value in
    find-more (is_bad_option rules (map string_bytes c.args.options.now)) c.loop-place.place c.loop-place.invariant
    (sym here ∙ sym c.is_bad_option.ensures ∙ c.if-is_bad_option.false)
