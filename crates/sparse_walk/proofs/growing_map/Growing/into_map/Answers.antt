use Rattle.std.proofs.Common.{subst}
use Rattle.patch_map.specs.Map.{LevelMap}
use Rattle.sparse_walk.specs.Grown.{IsWithLevel}
use Rattle.sparse_walk.proofs.growing_map.Growing.into_map.Goals as goal

pub returns : goal.returns
returns c = subst (λ (before : LevelMap). IsWithLevel before c.args.end c.take_level.new.map) c.self.view_is c.in_ok-take_level.ensures
