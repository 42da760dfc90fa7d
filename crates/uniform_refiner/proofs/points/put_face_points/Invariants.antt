use Rattle.std.proofs.Common.{◌≡◌, ◌+◌}
use Rattle.uniform_refiner.specs.Points.{ArePoints, without_points}
use Rattle.uniform_refiner.proofs.points.put_face_points.Given as goal

-- the points of the faces so far are put
abbrev pub invariant-loop-f : goal.invariant-loop-f
invariant-loop-f l = record {
  put : ArePoints l.level.level (l.level.level.point_count + l.f) l.rows;
  rest : without_points l.rows ≡ without_points l.fn.rows;
}
