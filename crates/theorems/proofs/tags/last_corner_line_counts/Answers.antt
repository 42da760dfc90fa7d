use Rattle.theorems.proofs.TextTagLemmas.{last-corner_line}
use Rattle.theorems.proofs.tags.last_corner_line_counts.Goals as goal

pub returns : goal.returns
returns c = λ text v last. last-corner_line text.lines last.before last.after last.element text.least v last.split last.is_one last.none_after
