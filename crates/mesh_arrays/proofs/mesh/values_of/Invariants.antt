use Rattle.std.proofs.Common.{◌≡◌, map, take}
use Rattle.raw_mesh.specs.View as view
use Rattle.mesh_arrays.specs.Arrays.{value_of}
use Rattle.mesh_arrays.proofs.mesh.values_of.Given as goal

-- what was made of those so far
abbrev pub invariant-loop-p : goal.invariant-loop-p
invariant-loop-p l = map view.texture_of l.all.items ≡ map value_of (take l.p-index l.values)
