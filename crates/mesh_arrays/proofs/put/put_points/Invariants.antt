use Rattle.std.proofs.Common.{◌≡◌, length, map, take, drop}
use Rattle.raw_mesh.specs.View as view
use Rattle.mesh_arrays.specs.Arrays.{point_of}
use Rattle.mesh_arrays.proofs.put.put_points.Given as goal

-- those so far are written
abbrev pub invariant-loop-k : goal.invariant-loop-k
invariant-loop-k l = record {
  written : map point_of (take l.k l.out) ≡ map view.point_of (take l.k l.points);
  rest : drop (length l.points) l.out ≡ drop (length l.points) l.fn.out;
  len : length l.out ≡ length l.fn.out;
}
