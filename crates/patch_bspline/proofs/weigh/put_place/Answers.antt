use Rattle.std.proofs.Common.{length, ap, refl}
use Rattle.patch_bspline.proofs.PutLemmas.{row-more, rows-all}
use Rattle.patch_bspline.proofs.weigh.put_place.Goals as goal

pub loop-k-preserved : goal.loop-k-preserved
loop-k-preserved c =
    row-more c.spline_weights-along.result c.spline_weights-across.result c.args.points.now (ap length c.spline_weights-across.ensures) c.requires.rows c.loop-k.k _ _
    c.start.new.self c.loop-k.weights c.put_row.new.weights c.loop-k-test.true c.loop-k.invariant refl c.row.ensures c.in_ok-put_row.ensures

pub returns : goal.returns
returns c =
    rows-all c.spline_weights-along.result c.spline_weights-across.result c.args.points.now (ap length c.spline_weights-across.ensures) c.requires.rows c.loop-k.k
    c.args.m c.args.i c.args.j c.denominator.result c.start.new.self c.loop-k.weights c.loop-k-test.false c.loop-k.invariant c.start.ensures c.denominator.ensures
    c.spline_weights-along.ensures c.spline_weights-across.ensures
