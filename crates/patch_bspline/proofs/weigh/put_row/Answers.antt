use Rattle.std.proofs.Common.{◌*◌, ap, get_or, refl, ◌∙◌}
use Rattle.patch_bspline.proofs.PutLemmas.{put-all, put-more}
use Rattle.patch_bspline.proofs.weigh.put_row.Goals as goal

pub loop-i-preserved : goal.loop-i-preserved
loop-i-preserved c =
    put-more c.args.along.now c.args.row.now c.args.across c.told-along c.told-row c.loop-i.i (c.from.result * c.from-in-loop-i.result) _ c.args.weights.now c.loop-i.weights
    c.put.new.self c.loop-i-test.true c.loop-i.invariant
    (ap (λ n. n * c.from-in-loop-i.result) c.from.ensures ∙ ap (λ n. get_or c.args.along.now c.loop-i.i 0 * n) c.from-in-loop-i.ensures) refl c.in_ok-put.ensures.added

pub returns : goal.returns
returns c =
    put-all c.args.along.now c.args.row.now c.args.across c.told-along c.told-row c.loop-i.i c.args.weights.now c.loop-i.weights c.loop-i-test.false
    c.loop-i.invariant
