use Rattle.std.proofs.Common.{refl}
use Rattle.stencil_factory.proofs.FoundLemmas.{weights-all}
use Rattle.stencil_factory.proofs.PowerLemmas.{greatest-more}
use Rattle.stencil_factory.proofs.weights.greatest_of_powers.Goals as goal

pub loop-weight-init : goal.loop-weight-init
loop-weight-init c = record { power = record { exponent = 0; is = refl }; is = refl }

pub loop-weight-preserved : goal.loop-weight-preserved
loop-weight-preserved c =
    greatest-more c.args.dens.now c.requires.positive c.args.weights.now c.requires.inside c.requires.short c.requires.powers c.loop-weight.weight-index _ _ c.loop-weight-test.true c.loop-weight.invariant
    c.greater_with-greatest.ensures.none c.greater_with-greatest.ensures.some

pub returns : goal.returns
returns c = weights-all c.args.dens.now c.requires.positive c.args.weights.now _ _ c.loop-weight-test.false c.loop-weight.invariant.is
