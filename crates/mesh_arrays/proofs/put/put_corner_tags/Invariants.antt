use Rattle.std.proofs.Common.{◌≡◌, false, length, map, take, drop}
use Rattle.std.specs.List.{All}
use Rattle.raw_mesh.specs.View as view
use Rattle.mesh_arrays.specs.Arrays.{corner_tag_of, is_bad_denominator}
use Rattle.mesh_arrays.proofs.put.put_corner_tags.Given as goal

-- those so far are written
abbrev pub invariant-loop-k : goal.invariant-loop-k
invariant-loop-k l = record {
  written : map corner_tag_of (take l.k l.out) ≡ map view.corner_tag_of (take l.k l.tags);
  good : All (λ point. is_bad_denominator point.sharpness_den ≡ false) (take l.k l.out);
  rest : drop (length l.tags) l.out ≡ drop (length l.tags) l.fn.out;
  len : length l.out ≡ length l.fn.out;
}
