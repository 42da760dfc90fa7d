use Rattle.std.proofs.Common.{arith, sym, ap, ◌∙◌, ◌∷◌}
use Rattle.std.proofs.lemmas.List.{take_rest}
use Rattle.subdiv_model.specs.ReadTable.{spaced_words}
use Rattle.table_file.specs.Words.{is_space}
use Rattle.table_file.proofs.SplitLemmas.{position-le, words-at, words-end}
use Rattle.table_file.proofs.words.first_word.Goals as goal

pub split_at-requires : goal.split_at-requires
split_at-requires c = omega (arith, c.word_len.ensures, position-le is_space c.args.line.now)

pub returns-in-empty : goal.returns-in-empty
returns-in-empty c =
    words-end c.args.line.now c.split_at.result.0.now c.split_at.result.1.now c.word_len.result c.word_len.ensures c.split_at.ensures.front c.split_at.ensures.back (omega (arith, c.in-empty.len_below))

pub returns-in-len1-up : goal.returns-in-len1-up
returns-in-len1-up c =
    words-at c.args.line.now c.split_at.result.0.now c.split_at.result.1.now c.word_len.result c.word_len.ensures c.split_at.ensures.front c.split_at.ensures.back (omega (arith, c.in-len1-up.len_at_least))
    ∙ ap (λ rest. c.split_at.result.0.now ∷ spaced_words rest) (sym (take_rest c.split_at.result.1.now 1))
