use Rattle.std.proofs.Common.{sym, ◌∙◌}
use Rattle.table_file.specs.Words.{words_left}
use Rattle.table_file.proofs.HeaderLemmas.{whole-header}
use Rattle.table_file.proofs.header.header_words.Goals as goal

pub returns-in-None : goal.returns-in-None
returns-in-None c =
    whole-header c.in_ok-next.field-0.now c.in_ok-controls.controls c.in_ok-rows.rows c.in_ok-entries.entries _
    (words_left c.next.new.self) (words_left c.named_number.new.words) (words_left c.named_number-2.new.words)
    (sym c.words_of-words.ensures ∙ c.in_ok-next.ensures) (sym c.is_word.ensures ∙ c.if-not-is_word.false)
    c.in_ok-controls.ensures.0 c.in_ok-controls.ensures.1 c.in_ok-controls.ensures.2
    c.in_ok-rows.ensures.0 c.in_ok-rows.ensures.1 c.in_ok-rows.ensures.2
    c.in_ok-entries.ensures.0 c.in_ok-entries.ensures.1 (sym c.in_ok-entries.ensures.2 ∙ c.in-None.ensures)
