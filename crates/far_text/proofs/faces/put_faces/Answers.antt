use Rattle.std.proofs.Common.{arith, length}
use Rattle.obj_out.proofs.PutsLemmas.{puts-same}
use Rattle.far_text.specs.Lines.{shown_face}
use Rattle.far_text.proofs.NumberedLemmas.{number-next, number-stop, all-numbers}
use Rattle.far_text.proofs.faces.put_faces.Goals as goal

pub returns-in_err-put_shown_face : goal.returns-in_err-put_shown_face
returns-in_err-put_shown_face g c =
    number-stop (shown_face c.args.holes c.args.level.now.level) (length c.args.level.now.level.polygons) c.loop-f.f
    (omega (arith, c.loop-f-test.true, c.faces-f-end.ensures)) c.from_residual.ensures.0 c.loop-f.invariant
    c.in_err-put_shown_face.ensures

pub loop-f-preserved : goal.loop-f-preserved
loop-f-preserved g c =
    number-next (shown_face c.args.holes c.args.level.now.level) (length c.args.level.now.level.polygons) c.loop-f.f
    (omega (arith, c.loop-f-test.true, c.faces-f-end.ensures)) c.loop-f.invariant
    c.in_ok-put_shown_face.ensures

pub returns : goal.returns
returns g c =
    puts-same (all-numbers (shown_face c.args.holes c.args.level.now.level) (length c.args.level.now.level.polygons) c.loop-f.f
    (omega (arith, c.loop-f-test.false, c.faces-f-end.ensures))) c.loop-f.invariant
