use Rattle.std.proofs.Common.{◌≡◌, length}
use Rattle.std.specs.List.{find}
use Rattle.level_builder.specs.Keys.{is_named}
use Rattle.mesh_check.proofs.edges.find_side.Given as goal

abbrev pub invariant-loop-rest : goal.invariant-loop-rest
invariant-loop-rest l = find (is_named l.directed l.known) l.rest ≡ find (is_named l.directed l.known) l.sides

abbrev pub decreases-loop-rest : goal.decreases-loop-rest
decreases-loop-rest l = length l.rest
