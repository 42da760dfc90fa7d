use Rattle.continued_laws.proofs.PositiveLemmas.{coordinates-positive}
use Rattle.continued_laws.proofs.points.refined_coordinates_have_denominators.Goals as goal

pub returns : goal.returns
returns c = λ given k. coordinates-positive given.level given.scheme given.common given.numbers k
