use Rattle.std.proofs.Common.{arith}
use Rattle.obj_out.proofs.PutsLemmas.{puts-same}
use Rattle.far_text.specs.Lines.{corner_where_sharp}
use Rattle.far_text.proofs.NumberedLemmas.{number-next, number-stop, all-numbers}
use Rattle.far_text.proofs.corner_tags.put_corners.Goals as goal

pub returns-in_err-put_vertex : goal.returns-in_err-put_vertex
returns-in_err-put_vertex g c =
    number-stop (corner_where_sharp c.args.level.now.level) c.args.level.now.level.point_count c.loop-v.v
    (omega (arith, c.loop-v-test.true, c.points-v-end.ensures)) c.from_residual.ensures.0 c.loop-v.invariant
    c.in_err-put_vertex.ensures

pub loop-v-preserved : goal.loop-v-preserved
loop-v-preserved g c =
    number-next (corner_where_sharp c.args.level.now.level) c.args.level.now.level.point_count c.loop-v.v
    (omega (arith, c.loop-v-test.true, c.points-v-end.ensures)) c.loop-v.invariant
    c.in_ok-put_vertex.ensures

pub returns : goal.returns
returns g c =
    puts-same (all-numbers (corner_where_sharp c.args.level.now.level) c.args.level.now.level.point_count c.loop-v.v
    (omega (arith, c.loop-v-test.false, c.points-v-end.ensures))) c.loop-v.invariant
