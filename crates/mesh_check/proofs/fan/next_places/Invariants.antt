use Rattle.std.proofs.Common.{◌≡◌, take}
use Rattle.mesh_check.specs.Group.{next_places}
use Rattle.mesh_check.proofs.fan.next_places.Given as goal

abbrev pub invariant-loop-corner : goal.invariant-loop-corner
invariant-loop-corner l = l.next.items ≡ next_places l.befores (take l.corner-index l.afters)
