use Rattle.stream_laws.proofs.WordLemmas.{text-words}
use Rattle.stream_laws.proofs.MarkLemmas.{last-refusal}
use Rattle.stream_laws.proofs.frames.lines_have_the_words_of_their_text.Goals as goal

pub returns-clause-words : goal.returns-clause-words
returns-clause-words c = text-words

pub returns-clause-unclosed : goal.returns-clause-unclosed
returns-clause-unclosed c = λ options text. last-refusal options text.lines text.last text.closed text.without_lf text.some
