use Rattle.std.proofs.Common.{ap, sym, ◌∙◌}
use Rattle.mesh_check.specs.View.{named}
use Rattle.mesh_check.proofs.ValenceLemmas.{sizes-fine}
use Rattle.mesh_check.proofs.check.check_mesh.Goals as goal

pub small_level-requires-clause-sound : goal.small_level-requires-clause-sound
small_level-requires-clause-sound g c = sym c.in_ok-fault.ensures ∙ ap named c.in-None.is

pub small_level-requires-clause-small : goal.small_level-requires-clause-small
small_level-requires-clause-small g c = sizes-fine c.args.raw.now c.size_fault.result c.in-None-size_fault.is c.size_fault.ensures
