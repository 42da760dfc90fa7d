use Rattle.mesh_check.proofs.ValenceLemmas.{sizes-small}
use Rattle.mesh_check.proofs.check.level_of.Goals as goal

pub base_level-requires-clause-fit : goal.base_level-requires-clause-fit
base_level-requires-clause-fit g c =
    let sizes = sizes-small c.args.raw.now c.requires.small in
    record { within = c.facts.ensures; sound = c.requires.sound; points = sizes.0; faces = sizes.1; sizes = sizes.2 }
