use Rattle.std.proofs.Common.{◌∙◌, sym}
use Rattle.sharpness_rules.proofs.RingLemmas.{places-at, places-after}
use Rattle.sharpness_rules.proofs.rule.next_sharp.Goals as goal

pub returns-then-is_sharp : goal.returns-then-is_sharp
returns-then-is_sharp c = (
  c.loop-place-test.true,
  c.loop-place.invariant
      ∙ places-at c.args.ring.now c.loop-place.place c.index-ring-place.result c.loop-place-test.true c.index-ring-place.is (sym c.is_sharp.ensures ∙ c.if-is_sharp.true),
)

pub loop-place-preserved : goal.loop-place-preserved
loop-place-preserved c =
    c.loop-place.invariant ∙ places-after c.args.ring.now c.loop-place.place c.index-ring-place.result c.loop-place-test.true c.index-ring-place.is (sym c.is_sharp.ensures ∙ c.if-is_sharp.false)
