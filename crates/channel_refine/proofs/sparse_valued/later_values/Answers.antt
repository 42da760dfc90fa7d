use Rattle.std.proofs.Common.{◌≡◌, ◌+◌, ◌≤◌, map, [], ap, sym, ◌∙◌, subst}
use Rattle.stencil_apply.specs.Table.{entries_of}
use Rattle.channel_refine.specs.Evaluated.{evaluated}
use Rattle.channel_refine.specs.SparseComposed.{valued, kept_order}
use Rattle.channel_refine.specs.SparseRefined.{SparseRows}
use Rattle.channel_refine.specs.SparseView.{sparse_rows}
use Rattle.channel_refine.proofs.ResultLemmas.{mapped}
use Rattle.channel_refine.proofs.SparseRowLemmas.{rows-all}
use Rattle.channel_refine.proofs.sparse_valued.later_values.Goals as goal

pub returns-clause-values : goal.returns-clause-values
returns-clause-values g c =
    mapped c.evaluate-values.result c.with_faces.result _ _ _ _ _ c.with_faces.ensures c.evaluate-values.ensures.values
    (λ values level made is.
    subst (λ x. sparse_rows g.P.Primvar.numbers x ≡ valued (map g.P.Primvar.numbers c.args.controls.now) (kept_order [] 1 c.args.level) c.args.level) (sym made)
    (ap (λ rows. let level : SparseRows = record { written = c.args.level.faces; rows = rows } in level)
    (is ∙ ap (λ some. evaluated some (map g.P.Primvar.numbers c.args.controls.now)) (sym (rows-all c.args.level.carried [])))))
    (λ fault is. tt)

pub returns-clause-steps : goal.returns-clause-steps
returns-clause-steps g c =
    subst (λ some. c.evaluate-values.new.steps ≤ c.args.steps.now + entries_of some.rows) (sym (rows-all c.args.level.carried [])) c.evaluate-values.ensures.steps
