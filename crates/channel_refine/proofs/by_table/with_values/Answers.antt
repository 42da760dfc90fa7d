use Rattle.std.proofs.Common.{◌≡◌, map, ap, sym, subst}
use Rattle.channel_refine.specs.Evaluated.{evaluated}
use Rattle.channel_refine.specs.View.{refined_of}
use Rattle.channel_refine.proofs.ResultLemmas.{mapped, mapped-on}
use Rattle.channel_refine.proofs.by_table.with_values.Goals as goal

pub returns-clause-refined : goal.returns-clause-refined
returns-clause-refined g c =
    mapped c.evaluate-values.result c.of.result _ _ _ _ _ c.of.ensures c.evaluate-values.ensures.values
    (λ values refined made is.
    subst (λ x. refined_of g.P.Primvar.numbers x ≡ record { level = c.args.composed.level; rows = evaluated c.args.composed.table (map g.P.Primvar.numbers c.args.controls.now) }) (sym made)
    (ap (λ rows. record { level = c.args.composed.level; rows = rows }) is))
    (λ fault is. tt)

pub returns-clause-taken : goal.returns-clause-taken
returns-clause-taken g c = mapped-on c.evaluate-values.result c.of.result _ _ c.of.ensures c.evaluate-values.ensures.taken

pub returns-clause-steps : goal.returns-clause-steps
returns-clause-steps g c = c.evaluate-values.ensures.steps

pub returns-clause-later : goal.returns-clause-later
returns-clause-later g c = c.evaluate-values.ensures.later
