use Rattle.stencil_factory.proofs.FoundLemmas.{weights-more, weights-all}
use Rattle.stencil_factory.proofs.weights.common_multiple_of_weights.Goals as goal

pub loop-weight-preserved : goal.loop-weight-preserved
loop-weight-preserved c =
    weights-more c.args.dens.now c.requires.positive c.args.weights.now c.requires.inside c.requires.short c.loop-weight.weight-index _ _ c.loop-weight-test.true c.loop-weight.invariant
    c.multiple_with-multiple.ensures.none c.multiple_with-multiple.ensures.some

pub returns : goal.returns
returns c = weights-all c.args.dens.now c.requires.positive c.args.weights.now _ _ c.loop-weight-test.false c.loop-weight.invariant
