use Rattle.theorems.proofs.LevelTagLemmas.{mode-vertex, mode-hole, no-mode-hole}
use Rattle.subdiv_model.specs.ObjTag.{tag_mode}
use Rattle.theorems.proofs.TextTagLemmas.{last-mode, no-mode}
use Rattle.theorems.proofs.tags.last_boundary_line_gives_the_mode.Goals as goal

pub returns-clause-vertices : goal.returns-clause-vertices
returns-clause-vertices c = λ text v last.
    mode-vertex text.lines text.least (tag_mode last.element) (last-mode text.lines last.before last.after last.element text.least last.split last.is_one last.none_after) v

pub returns-clause-holes : goal.returns-clause-holes
returns-clause-holes c = λ text face last.
    mode-hole text.lines text.least (tag_mode last.element) (last-mode text.lines last.before last.after last.element text.least last.split last.is_one last.none_after) face

pub returns-clause-untagged_vertices : goal.returns-clause-untagged_vertices
returns-clause-untagged_vertices c = λ text v none. mode-vertex text.lines text.least _ (no-mode text.lines text.least none) v

pub returns-clause-untagged_holes : goal.returns-clause-untagged_holes
returns-clause-untagged_holes c = λ text. no-mode-hole text.lines text.least
