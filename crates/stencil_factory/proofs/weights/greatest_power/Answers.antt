use Rattle.std.proofs.Common.{refl}
use Rattle.stencil_factory.proofs.FoundLemmas.{weights-all}
use Rattle.stencil_factory.proofs.PowerLemmas.{powers-more}
use Rattle.stencil_factory.proofs.weights.greatest_power.Goals as goal

pub loop-weight-init : goal.loop-weight-init
loop-weight-init c = λ above. record { power = record { exponent = 0; is = refl }; is = refl }

pub loop-weight-preserved : goal.loop-weight-preserved
loop-weight-preserved c =
    powers-more c.args.dens.now c.requires.positive c.args.weights.now c.requires.inside c.requires.short c.loop-weight.weight-index _ _ c.loop-weight-test.true c.loop-weight.invariant
    c.power_with-greatest.ensures.none c.power_with-greatest.ensures.some

pub returns : goal.returns
returns c = λ above. weights-all c.args.dens.now c.requires.positive c.args.weights.now _ _ c.loop-weight-test.false (c.loop-weight.invariant above).is
