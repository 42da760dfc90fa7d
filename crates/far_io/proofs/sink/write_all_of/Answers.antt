use Rattle.std.proofs.Common.{arith, ◌∙◌}
use Rattle.far_io.proofs.BytesLemmas.{Added-next}
use Rattle.far_io.proofs.sink.write_all_of.Goals as goal

pub loop-at-preserved : goal.loop-at-preserved
loop-at-preserved g c = record {
  within = c.in_ok-at.ensures.next.1;
  added = Added-next _ _ _ _ _ _ (omega (arith, c.in_ok-at.ensures.next)) c.loop-at.invariant.added c.in_ok-at.ensures.added;
  later = omega (arith, c.in_ok-at.ensures.later);
  fixed = c.in_ok-at.ensures.fixed ∙ c.loop-at.invariant.fixed;
}
