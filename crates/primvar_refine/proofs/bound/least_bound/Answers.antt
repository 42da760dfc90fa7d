use Rattle.std.proofs.Common.{ℕ, ◌∙◌, ap, arith}
use Rattle.primvar_refine.specs.Rows.{rounded_up}
use Rattle.primvar_refine.proofs.BoundLemmas.{ord-max, den-positive, den-short, numbers-kept, bound-more, rounded-short}
use Rattle.primvar_refine.proofs.bound.least_bound.Goals as goal

pub rounded_up-requires-clause-positive : goal.rounded_up-requires-clause-positive
rounded_up-requires-clause-positive g c = den-positive g.P.Primvar.numbers c.args.values.now c.requires _ c.value-item.result c.loop-value-test.true c.value-item.is

pub rounded_up-requires-clause-num : goal.rounded_up-requires-clause-num
rounded_up-requires-clause-num g c = rw c.greatest.ensures (numbers-kept g.P.Primvar.numbers c.args.values.now c.requires _ c.value-item.result c.loop-value-test.true c.value-item.is)

pub rounded_up-requires-clause-den : goal.rounded_up-requires-clause-den
rounded_up-requires-clause-den g c = den-short g.P.Primvar.numbers c.args.values.now c.requires _ c.value-item.result c.loop-value-test.true c.value-item.is

pub loop-value-preserved : goal.loop-value-preserved
loop-value-preserved g c =
    let more = c.max-bound.ensures ∙ ord-max c.loop-value.bound c.rounded_up.result in
    let here = c.rounded_up.ensures ∙ ap (λ (n : ℕ). rounded_up n c.value-item.result.den) c.greatest.ensures in
    let short = rounded-short g.P.Primvar.numbers c.args.values.now c.requires _ c.rounded_up.result c.value-item.result c.loop-value-test.true c.value-item.is here in
    record {
      exact = more ∙ bound-more g.P.Primvar.numbers c.args.values.now c.requires _ c.loop-value.bound c.rounded_up.result c.value-item.result c.loop-value-test.true c.value-item.is c.loop-value.invariant.exact here;
      short = omega (arith, more, short, c.loop-value.invariant.short);
    }
