use Rattle.std.proofs.Common.{◌≡◌, map}
use Rattle.std.specs.List.{flat_map, range_with_len}
use Rattle.raw_mesh.specs.View.{point_of}
use Rattle.sheet_maker.specs.Rows.{row_points}
use Rattle.sheet_maker.proofs.points.points_of_rows.Given as goal

-- the points of the rows so far
abbrev pub invariant-loop-i : goal.invariant-loop-i
invariant-loop-i l = map point_of l.points.items ≡ flat_map (row_points l.size l.draws) (range_with_len 0 l.i)
