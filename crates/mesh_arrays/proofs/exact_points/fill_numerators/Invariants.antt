use Rattle.std.proofs.Common.{◌≡◌, ◌*◌, map, take}
use Rattle.flat_arrays.specs.Words.{integer_of}
use Rattle.mesh_arrays.specs.Points.{all_numerators}
use Rattle.mesh_arrays.proofs.exact_points.fill_numerators.Given as goal

-- the numerators of the points before this one are written
abbrev pub invariant-loop-place : goal.invariant-loop-place
invariant-loop-place l = map integer_of (take (3 * l.place) l.out) ≡ all_numerators (take l.place l.points)
