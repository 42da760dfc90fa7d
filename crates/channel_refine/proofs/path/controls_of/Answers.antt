use Rattle.std.proofs.Common.{◌∙◌, map, ap, take_all}
use Rattle.channel_refine.specs.View.{control_of}
use Rattle.channel_refine.proofs.PathLemmas.{next-control}
use Rattle.channel_refine.proofs.path.controls_of.Goals as goal

pub loop-value-preserved : goal.loop-value-preserved
loop-value-preserved g c =
    next-control c.args.numbers.now c.loop-value.value-index _ c.value-item.result c.loop-value.controls.items _ c.loop-value-test.true c.value-item.is c.loop-value.invariant c.in_ok-push.ensures.items

pub returns : goal.returns
returns g c = c.loop-value.invariant ∙ ap (map control_of) (take_all c.loop-value.value-index c.args.numbers.now c.loop-value-test.false)
