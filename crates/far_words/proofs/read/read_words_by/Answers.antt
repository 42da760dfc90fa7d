use Rattle.std.proofs.Common.{◌≡◌, ◌∷◌, ◌-◌, map, length, take, drop, string_bytes, ap, sym, ◌∙◌}
use Rattle.far_words.proofs.ValueLemmas.{find-passes}
use Rattle.far_words.specs.View.{rule_of_code, table_of_code, result_of_code}
use Rattle.far_words.specs.Table.{is_u32_rule}
use Rattle.far_words.proofs.ListLemmas.{first-and-rest}
use Rattle.far_words.proofs.ReadLemmas.{read-by-rule, read-by-none}
use Rattle.far_words.proofs.read.read_words_by.Goals as goal

pub read_options-requires : goal.read_options-requires
read_options-requires c =
    (find-passes is_u32_rule _ (table_of_code c.args.table.now) (rule_of_code c.in-Some.rule.now) c.requires (sym c.in-Some.ensures)).0

pub returns-in-Some : goal.returns-in-Some
returns-in-Some c =
    let words = c.as_slice.result.now in
    let options = map string_bytes (take (length words - 1) (drop 1 words)) in
    let whole : map string_bytes c.args.words.now.items ≡ c.as_str-name.result.now ∷ options =
    ap (map string_bytes) (sym c.as_slice.ensures.value)
    ∙ first-and-rest string_bytes words c.command-item.result c.in-len1-up.len_at_least c.command-item.is
    ∙ ap (λ name. name ∷ options) (sym c.as_str-name.ensures.value) in
    read-by-rule (table_of_code c.args.table.now) (map string_bytes c.args.words.now.items) c.as_str-name.result.now options
    (rule_of_code c.in-Some.rule.now) (result_of_code c.read_options.result) whole c.in-Some.ensures c.read_options.ensures

pub returns-in-None : goal.returns-in-None
returns-in-None c =
    let words = c.as_slice.result.now in
    let options = map string_bytes (take (length words - 1) (drop 1 words)) in
    let whole : map string_bytes c.args.words.now.items ≡ c.as_str-name.result.now ∷ options =
    ap (map string_bytes) (sym c.as_slice.ensures.value)
    ∙ first-and-rest string_bytes words c.command-item.result c.in-len1-up.len_at_least c.command-item.is
    ∙ ap (λ name. name ∷ options) (sym c.as_str-name.ensures.value) in
    read-by-none (table_of_code c.args.table.now) (map string_bytes c.args.words.now.items) c.as_str-name.result.now options whole c.in-None.ensures
