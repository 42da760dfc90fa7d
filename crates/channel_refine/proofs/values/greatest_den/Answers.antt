use Rattle.std.proofs.Common.{map, ap, ◌∙◌}
use Rattle.std.proofs.lemmas.List.{take_all}
use Rattle.primvar_refine.specs.Rows.{greatest_of}
use Rattle.primvar_refine.proofs.BoundLemmas.{ord-max}
use Rattle.channel_refine.proofs.DenominatorLemmas.{greatest-more}
use Rattle.channel_refine.proofs.values.greatest_den.Goals as goal

pub loop-value-preserved : goal.loop-value-preserved
loop-value-preserved g c =
    c.max-greatest.ensures ∙ ord-max c.loop-value.greatest c.value-item.result.den
    ∙ greatest-more c.args.values.now c.loop-value.value-index c.loop-value.greatest c.value-item.result c.loop-value-test.true c.value-item.is c.loop-value.invariant

pub returns : goal.returns
returns g c = c.loop-value.invariant ∙ ap (λ l. greatest_of (map (λ v. v.den) l)) (take_all c.loop-value.value-index c.args.values.now c.loop-value-test.false)
