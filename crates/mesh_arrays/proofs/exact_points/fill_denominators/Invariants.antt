use Rattle.std.proofs.Common.{◌≡◌, map, take}
use Rattle.flat_arrays.specs.Words.{natural_of}
use Rattle.mesh_arrays.specs.Points.{all_denominators}
use Rattle.mesh_arrays.proofs.exact_points.fill_denominators.Given as goal

-- the denominators of the points before this one are written
abbrev pub invariant-loop-place : goal.invariant-loop-place
invariant-loop-place l = map natural_of (take l.place l.out) ≡ all_denominators l.common (take l.place l.points)
