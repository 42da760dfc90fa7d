use Rattle.std.proofs.Common.{arith, ap, ◌∙◌}
use Rattle.point_fans.specs.Built.{Built}
use Rattle.mesh_check.proofs.BaseMarkLemmas.{marks-more}
use Rattle.mesh_check.proofs.base.mark_points.Goals as goal

pub loop-v-preserved : goal.loop-v-preserved
loop-v-preserved c = record {
  level = ap (λ (b : Built). b.level) c.mark_complete.ensures ∙ c.loop-v.invariant.level;
  marks = ap (λ (b : Built). b.complete) c.mark_complete.ensures ∙ marks-more c.loop-v.v c.args.builder.now.complete _ (omega (arith, c.loop-v-test.true, c.requires.marks)) c.loop-v.invariant.marks;
}
