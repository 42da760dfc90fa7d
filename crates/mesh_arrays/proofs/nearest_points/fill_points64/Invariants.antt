use Rattle.std.proofs.Common.{◌*◌, take}
use Rattle.nearest_float.specs.Binary.{binary64}
use Rattle.nearest_float.specs.NearestArrays.{AreNearest}
use Rattle.mesh_arrays.specs.Points.{coordinates}
use Rattle.mesh_arrays.proofs.nearest_points.fill_points64.Given as goal

-- the numbers nearest to the coordinates of the points before this one are written
abbrev pub invariant-loop-place : goal.invariant-loop-place
invariant-loop-place l = AreNearest binary64 (coordinates l.common (take l.place l.points)) (take (3 * l.place) l.out)
