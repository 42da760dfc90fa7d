use Rattle.std.proofs.Common.{rules}
use Rattle.level_builder.proofs.builder.LevelBuilder.new.Goals as goal

pub returns : goal.returns
returns c = search rules
