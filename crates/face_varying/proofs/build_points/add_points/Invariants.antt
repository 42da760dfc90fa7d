use Rattle.std.proofs.Common.{◌≡◌}
use Rattle.face_varying.specs.Built.{point_sharpness, with_points}
use Rattle.face_varying.proofs.build_points.add_points.Given as goal

-- the points before this one are set
abbrev pub invariant-loop-p : goal.invariant-loop-p
invariant-loop-p l = l.builder ≡ with_points (point_sharpness l.level.level l.vertices l.kept) l.p l.fn.builder
