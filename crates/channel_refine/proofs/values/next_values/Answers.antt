use Rattle.std.proofs.Common.{sym, subst}
use Rattle.mask_rules.specs.View.{scheme_of}
use Rattle.level_walk.proofs.PromiseLemmas.{for-scheme}
use Rattle.primvar_refine.specs.View.{rows_of}
use Rattle.channel_refine.specs.Step.{IsValueCause}
use Rattle.channel_refine.proofs.ValueLemmas.{value-cause, values-next, value-over, test-fits, test-over}
use Rattle.channel_refine.proofs.values.next_values.Goals as goal

pub refine_values-requires-clause-child : goal.refine_values-requires-clause-child
refine_values-requires-clause-child g c = for-scheme c.args.level.now c.args.child.now (scheme_of c.args.scheme) c.requires.child

pub returns-in-Err-clause-refined : goal.returns-in-Err-clause-refined
returns-in-Err-clause-refined g c =
    subst (λ f. IsValueCause c.args.most c.args.level.now.level (scheme_of c.args.scheme) c.args.child.now.origins (rows_of g.P.Primvar.numbers c.args.values.now) f) (sym c.value_cause.ensures)
    (value-cause c.args.most c.args.level.now (scheme_of c.args.scheme) c.args.child.now.origins (rows_of g.P.Primvar.numbers c.args.values.now) _ c.requires.values c.in-Err.ensures.refined)

pub returns-then-not-fits-clause-refined : goal.returns-then-not-fits-clause-refined
returns-then-not-fits-clause-refined g c =
    value-over c.args.most c.args.level.now.level (scheme_of c.args.scheme) c.args.child.now.origins (rows_of g.P.Primvar.numbers c.args.values.now) _ c.in-Ok.ensures.refined
    (test-over g.P.Primvar.numbers c.deref.result.now c.in-Ok.next.items c.args.most c.deref.ensures.value _ c.fits.ensures c.if-not-fits.true)

pub returns-clause-refined : goal.returns-clause-refined
returns-clause-refined g c = record {
  refined = c.in-Ok.ensures.refined;
  fits = test-fits g.P.Primvar.numbers c.deref.result.now c.in-Ok.next.items c.args.most c.deref.ensures.value _ c.fits.ensures c.if-not-fits.false;
}

pub returns-clause-values : goal.returns-clause-values
returns-clause-values g c =
    values-next c.args.most c.args.level.now c.args.child.now (scheme_of c.args.scheme) (rows_of g.P.Primvar.numbers c.args.values.now) (rows_of g.P.Primvar.numbers c.in-Ok.next.items)
    c.facts.ensures c.facts-2.ensures c.requires.child c.requires.values (record {
      refined = c.in-Ok.ensures.refined;
      fits = test-fits g.P.Primvar.numbers c.deref.result.now c.in-Ok.next.items c.args.most c.deref.ensures.value _ c.fits.ensures c.if-not-fits.false;
    })
