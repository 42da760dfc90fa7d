use Rattle.theorems.proofs.TextTagLemmas.{last-method, no-method}
use Rattle.theorems.proofs.tags.last_method_line_counts.Goals as goal

pub returns-clause-last : goal.returns-clause-last
returns-clause-last c = λ text last. last-method text.lines last.before last.after last.element text.least last.split last.is_one last.none_after

pub returns-clause-untagged : goal.returns-clause-untagged
returns-clause-untagged c = λ text. no-method text.lines text.least
