use Rattle.std.proofs.Common.{◌≡◌, map, take}
use Rattle.raw_mesh.specs.View as view
use Rattle.mesh_arrays.specs.Arrays.{crease_of}
use Rattle.mesh_arrays.proofs.mesh.creases_of.Given as goal

-- what was made of those so far
abbrev pub invariant-loop-edge : goal.invariant-loop-edge
invariant-loop-edge l = map view.crease_of l.all.items ≡ map crease_of (take l.edge-index l.creases)
