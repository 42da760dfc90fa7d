use Rattle.std.proofs.Common.{◌≡◌, ◌+◌, length}
use Rattle.uniform_refiner.specs.Points.{ArePoints, without_points}
use Rattle.uniform_refiner.proofs.points.put_edge_points.Given as goal

-- the points of the edges so far are put
abbrev pub invariant-loop-e : goal.invariant-loop-e
invariant-loop-e l = record {
  put : ArePoints l.level.level (l.level.level.point_count + length l.level.level.polygons + l.e) l.rows;
  rest : without_points l.rows ≡ without_points l.fn.rows;
}
