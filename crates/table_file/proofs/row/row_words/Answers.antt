use Rattle.std.proofs.Common.{sym, ◌∙◌}
use Rattle.table_file.specs.Words.{words_left}
use Rattle.table_file.proofs.RowLemmas.{no-number, no-pairs, form-read}
use Rattle.table_file.proofs.row.row_words.Goals as goal

pub returns-then-not-is_number : goal.returns-then-not-is_number
returns-then-not-is_number c =
    no-number _ (words_left c.next.new.self) c.in_ok-next.field-0.now c.in_ok-denominator.denominator c.next-2.new.self
    (sym c.words_of-words.ensures ∙ c.in_ok-next.ensures) c.in_ok-denominator.ensures (sym c.is_number.ensures ∙ c.if-not-is_number.true)

pub returns-then-not-are_pairs : goal.returns-then-not-are_pairs
returns-then-not-are_pairs c =
    no-pairs _ (words_left c.next.new.self) c.in_ok-next.field-0.now c.in_ok-denominator.denominator c.next-2.new.self
    (sym c.words_of-words.ensures ∙ c.in_ok-next.ensures) c.in_ok-denominator.ensures (sym c.are_pairs.ensures ∙ c.if-not-are_pairs.true)

pub returns : goal.returns
returns c =
    form-read _ (words_left c.next.new.self) c.in_ok-next.field-0.now c.in_ok-denominator.denominator c.next-2.new.self
    (sym c.words_of-words.ensures ∙ c.in_ok-next.ensures) c.in_ok-denominator.ensures (sym c.is_word.ensures ∙ c.if-not-is_word.false)
    (sym c.is_number.ensures ∙ c.if-not-is_number.false) (sym c.are_pairs.ensures ∙ c.if-not-are_pairs.false)
