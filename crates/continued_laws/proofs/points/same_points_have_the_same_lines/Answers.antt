use Rattle.continued_laws.proofs.LineLemmas.{columns-same}
use Rattle.continued_laws.proofs.points.same_points_have_the_same_lines.Goals as goal

pub returns : goal.returns
returns c = columns-same
