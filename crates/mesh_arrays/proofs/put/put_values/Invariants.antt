use Rattle.std.proofs.Common.{◌≡◌, length, map, take, drop}
use Rattle.raw_mesh.specs.View as view
use Rattle.mesh_arrays.specs.Arrays.{value_of}
use Rattle.mesh_arrays.proofs.put.put_values.Given as goal

-- those so far are written
abbrev pub invariant-loop-k : goal.invariant-loop-k
invariant-loop-k l = record {
  written : map value_of (take l.k l.out) ≡ map view.texture_of (take l.k l.values);
  rest : drop (length l.values) l.out ≡ drop (length l.values) l.fn.out;
  len : length l.out ≡ length l.fn.out;
}
