use Rattle.std.proofs.Common.{◌∙◌, ◌-◌, length, get_or, ap, sym}
use Rattle.std.proofs.lemmas.List.{length-replicate, length-set}
use Rattle.mesh_check.specs.Chain.{goes_on}
use Rattle.mesh_check.proofs.WalkLemmas.{long-start, step-on}
use Rattle.mesh_check.proofs.chain.is_long_walk.Goals as goal

pub loop-steps-init : goal.loop-steps-init
loop-steps-init c = record {
  decides = long-start c.args.next.now c.in_ok-marks.marks.items c.args.start c.in_ok-marks.ensures;
  size = ap length c.in_ok-marks.ensures ∙ length-replicate (length c.args.next.now) 0;
}

pub loop-steps-preserved : goal.loop-steps-preserved
loop-steps-preserved c = record {
  decides =
      ap (λ ms. goes_on 1 c.args.next.now ms (c.loop-steps.steps - 1) (get_or c.args.next.now c.loop-steps.i 0)) c.mark_at.ensures.marks
      ∙ step-on 1 c.args.next.now c.loop-steps.marks.items c.loop-steps.steps c.loop-steps.i c.loop-steps-test.true c.if-i-next.false (sym c.mark_at.ensures.was ∙ c.if-mark_at.false)
      ∙ c.loop-steps.invariant.decides;
  size = ap length c.mark_at.ensures.marks ∙ length-set c.loop-steps.marks.items c.loop-steps.i 1 ∙ c.loop-steps.invariant.size;
}
