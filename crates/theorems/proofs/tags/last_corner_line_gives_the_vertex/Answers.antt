use Rattle.theorems.proofs.LevelTagLemmas.{last-vertex, no-vertex, end-vertex}
use Rattle.theorems.proofs.tags.last_corner_line_gives_the_vertex.Goals as goal

pub returns-clause-last : goal.returns-clause-last
returns-clause-last c = λ text v last. last-vertex text.lines last.before last.after last.element text.least v last.split last.is_one last.none_after

pub returns-clause-untagged : goal.returns-clause-untagged
returns-clause-untagged c = λ text. no-vertex text.lines text.least

pub returns-clause-end_corner : goal.returns-clause-end_corner
returns-clause-end_corner c = λ text. end-vertex text.lines text.least
