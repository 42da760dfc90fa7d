use Rattle.std.proofs.Common.{subst}
use Rattle.std.specs.Prelude.{IfOk}
use Rattle.patch_map.specs.Map.{LevelMap}
use Rattle.sparse_walk.specs.Grown.{IsWithLevel}
use Rattle.sparse_walk.proofs.growing_map.GrowingVisitorWalkedSparse.leave.Goals as goal

pub returns : goal.returns
returns g c = subst (λ (before : LevelMap). IfOk c.take_level.result (λ _. IsWithLevel before c.args.level c.take_level.new.map)) c.self.view_is c.take_level.ensures
