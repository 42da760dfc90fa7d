use Rattle.level_laws.proofs.NewPointLemmas.{new-smooth, old-uniform}
use Rattle.level_laws.proofs.levels.new_points_are_smooth.Goals as goal

pub returns-clause-new_points : goal.returns-clause-new_points
returns-clause-new_points c = new-smooth

pub returns-clause-old_points : goal.returns-clause-old_points
returns-clause-old_points c = old-uniform
