use Rattle.theorems.proofs.TextTagLemmas.{last-crease_line}
use Rattle.theorems.proofs.tags.last_crease_line_counts.Goals as goal

pub returns : goal.returns
returns c = λ text edge last. last-crease_line text.lines last.before last.after last.element text.least edge last.split last.is_one last.none_after
