use Rattle.primvar_refine.proofs.FoundLemmas.{dens-more, dens-all}
use Rattle.primvar_refine.proofs.dens.denominators.Goals as goal

pub loop-value-preserved : goal.loop-value-preserved
loop-value-preserved g c =
    dens-more g.P.Primvar.numbers c.args.values.now c.loop-value.value-index c.value-item.result _ _ c.loop-value-test.true c.loop-value.invariant c.value-item.is c.in_ok-push.ensures.items

pub returns : goal.returns
returns g c = dens-all g.P.Primvar.numbers c.args.values.now c.loop-value.value-index _ c.loop-value-test.false c.loop-value.invariant
