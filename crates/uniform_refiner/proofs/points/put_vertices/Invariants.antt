use Rattle.std.proofs.Common.{◌≡◌}
use Rattle.uniform_refiner.specs.Points.{ArePoints, without_points}
use Rattle.uniform_refiner.proofs.points.put_vertices.Given as goal

-- the points of the vertices so far are put
abbrev pub invariant-loop-v : goal.invariant-loop-v
invariant-loop-v l = record {
  put : ArePoints l.level.level l.v l.rows;
  rest : without_points l.rows ≡ without_points l.fn.rows;
}
