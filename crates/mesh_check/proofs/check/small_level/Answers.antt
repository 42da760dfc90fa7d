use Rattle.mesh_check.proofs.ValenceLemmas.{counts-small}
use Rattle.mesh_check.proofs.check.small_level.Goals as goal

pub returns-clause-checked : goal.returns-clause-checked
returns-clause-checked g c = record {
  manifold = c.requires.sound;
  small = counts-small c.args.raw.now _ c.requires.small c.in-None.is c.in_ok-counted.ensures;
  level_is = c.in_ok-level.ensures.level;
  complete = c.in_ok-level.ensures.complete;
}
