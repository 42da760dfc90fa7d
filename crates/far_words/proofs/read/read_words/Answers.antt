use Rattle.std.proofs.Common.{◌≡◌, map, rules, string_bytes, subst}
use Rattle.far_model.specs.Command.{read_words_by}
use Rattle.far_words.specs.View.{result_of_code}
use Rattle.far_words.proofs.WordsLemmas.{read-in-range}
use Rattle.far_words.proofs.read.read_words.Goals as goal

-- asked for by name, so that a body that breaks it is refused at once
pub returns-clause-read : goal.returns-clause-read
returns-clause-read c = search rules

pub returns-clause-in_range : goal.returns-clause-in_range
returns-clause-in_range c =
    let words = map string_bytes c.args.words.now.items in
    read-in-range words c.read_words_by.result (subst (λ table. result_of_code c.read_words_by.result ≡ read_words_by table words) c.command_table.ensures c.read_words_by.ensures)
