use Rattle.std.proofs.Common.{◌≡◌, ◌++◌, map}
use Rattle.std.specs.List.{range_with_len}
use Rattle.raw_mesh.specs.View.{point_of}
use Rattle.sheet_maker.specs.Rows.{place_of}
use Rattle.sheet_maker.proofs.points.put_row.Given as goal

-- the points of the row so far
abbrev pub invariant-loop-j : goal.invariant-loop-j
invariant-loop-j l = map point_of l.points.items ≡ map point_of l.fn.points.items ++ map (place_of l.size l.draws l.i) (range_with_len 0 l.j)
