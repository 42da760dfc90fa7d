use Rattle.std.proofs.Common.{arith, ◌∙◌}
use Rattle.face_varying.proofs.CornerLabelLemmas.{corner-labels}
use Rattle.face_varying.proofs.LabelLemmas.{vertices-more}
use Rattle.face_varying.proofs.fans.joined_corners.Goals as goal

pub loop-v-preserved : goal.loop-v-preserved
loop-v-preserved c = record {
  corners = c.label_vertex.ensures.corners ∙ c.loop-v.invariant.corners;
  runs = vertices-more c.args.level.now c.facts.ensures c.loop-v.v (omega (arith, c.loop-v-test.true, c.points-v-end.ensures)) c.args.apart.now c.loop-v.labels.items c.label_vertex.new.labels.items c.label_vertex.ensures.others c.label_vertex.ensures.runs c.loop-v.invariant.runs;
}

pub returns : goal.returns
returns c = λ mesh cuttable marks.
    corner-labels mesh c.args.level.now cuttable c.facts.ensures c.args.apart.now marks c.loop-v.labels.items c.loop-v.invariant.corners (λ v inside. c.loop-v.invariant.runs v (omega (arith, c.loop-v-test.false, c.points-v-end.ensures)))
