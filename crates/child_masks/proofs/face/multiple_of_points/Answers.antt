use Rattle.child_masks.proofs.FaceLemmas.{points-more, points-all}
use Rattle.child_masks.proofs.face.multiple_of_points.Goals as goal

pub loop-v-preserved : goal.loop-v-preserved
loop-v-preserved c =
    points-more c.args.dens.now c.args.points.now c.requires.positive c.requires.within _ _ _ c.requires.short c.loop-v-test.true c.loop-v.invariant c.common_multiple-multiple.ensures

pub returns : goal.returns
returns c = points-all c.args.dens.now c.args.points.now c.requires.positive c.requires.within _ _ c.loop-v-test.false c.loop-v.invariant
