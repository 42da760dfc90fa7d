use Rattle.std.proofs.Common.{ap, take_all}
use Rattle.std.specs.List.{flat_map}
use Rattle.obj_out.proofs.PutsLemmas.{puts-next, puts-same, puts-stop}
use Rattle.far_text.specs.Lines.{corner_word}
use Rattle.far_text.proofs.faces.put_corners.Goals as goal

pub returns-in_err-put_corner : goal.returns-in_err-put_corner
returns-in_err-put_corner g c =
    puts-stop corner_word c.args.corners.now c.loop-corner.corner-index 0 c.loop-corner-test.true c.from_residual.ensures.0
    c.loop-corner.invariant
    c.in_err-put_corner.ensures

pub loop-corner-preserved : goal.loop-corner-preserved
loop-corner-preserved g c =
    puts-next corner_word c.args.corners.now c.loop-corner.corner-index 0 c.loop-corner-test.true c.loop-corner.invariant
    c.in_ok-put_corner.ensures

pub returns : goal.returns
returns g c =
    puts-same (ap (flat_map corner_word)
    (take_all c.loop-corner.corner-index c.args.corners.now c.loop-corner-test.false)) c.loop-corner.invariant
