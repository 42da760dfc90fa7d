use Rattle.std.proofs.Common.{◌≡◌, ◌++◌, length}
use Rattle.std.specs.List.{filter}
use Rattle.level_builder.specs.Keys.{is_named}
use Rattle.mesh_check.proofs.edges.sides_among.Given as goal

-- the sides found so far and those of the rest are all
abbrev pub invariant-loop-rest : goal.invariant-loop-rest
invariant-loop-rest l = l.found.items ++ filter (is_named l.directed l.known) l.rest ≡ filter (is_named l.directed l.known) l.sides

abbrev pub decreases-loop-rest : goal.decreases-loop-rest
decreases-loop-rest l = length l.rest
