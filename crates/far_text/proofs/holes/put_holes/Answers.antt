use Rattle.std.proofs.Common.{arith, length}
use Rattle.obj_out.proofs.PutsLemmas.{puts-same}
use Rattle.far_text.specs.Lines.{hole_where_marked}
use Rattle.far_text.proofs.NumberedLemmas.{number-next, number-stop, all-numbers}
use Rattle.far_text.proofs.holes.put_holes.Goals as goal

pub returns-in_err-put_face : goal.returns-in_err-put_face
returns-in_err-put_face g c =
    number-stop (hole_where_marked c.args.level.now.level) (length c.args.level.now.level.polygons) c.loop-f.f
    (omega (arith, c.loop-f-test.true, c.faces-f-end.ensures)) c.from_residual.ensures.0 c.loop-f.invariant
    c.in_err-put_face.ensures

pub loop-f-preserved : goal.loop-f-preserved
loop-f-preserved g c =
    number-next (hole_where_marked c.args.level.now.level) (length c.args.level.now.level.polygons) c.loop-f.f
    (omega (arith, c.loop-f-test.true, c.faces-f-end.ensures)) c.loop-f.invariant
    c.in_ok-put_face.ensures

pub returns : goal.returns
returns g c =
    puts-same (all-numbers (hole_where_marked c.args.level.now.level) (length c.args.level.now.level.polygons) c.loop-f.f
    (omega (arith, c.loop-f-test.false, c.faces-f-end.ensures))) c.loop-f.invariant
