use Rattle.theorems.proofs.TextTagLemmas.{last-mode, no-mode}
use Rattle.theorems.proofs.tags.last_boundary_line_counts.Goals as goal

pub returns-clause-last : goal.returns-clause-last
returns-clause-last c = λ text last. last-mode text.lines last.before last.after last.element text.least last.split last.is_one last.none_after

pub returns-clause-untagged : goal.returns-clause-untagged
returns-clause-untagged c = λ text. no-mode text.lines text.least
