use Rattle.std.proofs.Common.{◌≡◌, false, length, map, take, drop}
use Rattle.std.specs.List.{All}
use Rattle.raw_mesh.specs.View as view
use Rattle.mesh_arrays.specs.Arrays.{crease_of, is_bad_denominator}
use Rattle.mesh_arrays.proofs.put.put_creases.Given as goal

-- those so far are written
abbrev pub invariant-loop-k : goal.invariant-loop-k
invariant-loop-k l = record {
  written : map crease_of (take l.k l.out) ≡ map view.crease_of (take l.k l.creases);
  good : All (λ edge. is_bad_denominator edge.sharpness_den ≡ false) (take l.k l.out);
  rest : drop (length l.creases) l.out ≡ drop (length l.creases) l.fn.out;
  len : length l.out ≡ length l.fn.out;
}
