use Rattle.theorems.proofs.TextTagLemmas.{holes-any}
use Rattle.theorems.proofs.tags.hole_lines_add_up.Goals as goal

pub returns : goal.returns
returns c = λ text. holes-any text.lines text.least
