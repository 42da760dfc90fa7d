use Rattle.std.proofs.Common.{map, ap, sym, subst, ◌≡◌}
use Rattle.channel_refine.specs.SparseComposed.{valued}
use Rattle.channel_refine.specs.SparseRefined.{SparseRows}
use Rattle.channel_refine.specs.SparseView.{sparse_rows}
use Rattle.channel_refine.proofs.ResultLemmas.{mapped}
use Rattle.channel_refine.proofs.sparse_valued.first_values.Goals as goal

pub returns-clause-values : goal.returns-clause-values
returns-clause-values g c =
    mapped c.evaluate_rows-values.result c.with_faces.result _ _ _ _ _ c.with_faces.ensures c.evaluate_rows-values.ensures.values
    (λ values level made is.
    subst (λ x. sparse_rows g.P.Primvar.numbers x ≡ valued (map g.P.Primvar.numbers c.args.controls.now) c.args.order.now c.args.level) (sym made)
    (ap (λ rows. let level : SparseRows = record { written = c.args.level.faces; rows = rows } in level) is))
    (λ fault is. tt)

pub returns-clause-steps : goal.returns-clause-steps
returns-clause-steps g c = c.evaluate_rows-values.ensures.steps
