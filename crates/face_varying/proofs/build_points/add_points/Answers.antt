use Rattle.std.proofs.Common.{arith}
use Rattle.face_varying.specs.Built.{point_sharpness}
use Rattle.face_varying.proofs.PointLemmas.{points-more}
use Rattle.face_varying.proofs.build_points.add_points.Goals as goal

pub loop-p-preserved : goal.loop-p-preserved
loop-p-preserved c =
    points-more (point_sharpness c.args.level.now.level c.args.vertices.now c.args.kept.now) c.loop-p.p _ c.args.builder.now c.loop-p.builder c.add_sharp_vertex.new.self c.mark_complete.new.self
    (omega (arith, c.loop-p-test.true, c.requires.sharpness)) (omega (arith, c.loop-p-test.true, c.requires.marks)) c.point_sharpness.ensures c.loop-p.invariant c.add_sharp_vertex.ensures c.mark_complete.ensures
