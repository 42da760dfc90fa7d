use Rattle.std.proofs.Common.{map, arith, ap, sym, ◌∙◌}
use Rattle.stencil_apply.specs.Table.{entries_of}
use Rattle.primvar_refine.specs.View.{rows_of}
use Rattle.channel_refine.specs.SparseComposed.{rows_at}
use Rattle.channel_refine.proofs.EvaluatedLemmas.{evaluated_rows}
use Rattle.channel_refine.proofs.ControlLemmas.{none-over, first-numbers}
use Rattle.channel_refine.proofs.SparseRowLemmas.{none-asked, picked}
use Rattle.channel_refine.proofs.sparse_rows.evaluate_rows.Goals as goal

pub returns-in_default-clause-values : goal.returns-in_default-clause-values
returns-in_default-clause-values g c =
    let none = none-over g.P.Primvar.numbers c.first.result c.args.controls.now c.args.table.now c.facts.ensures c.requires.can.each c.first.ensures.value c.in_default.is in
    let asked = none-asked c.args.table.now c.args.rows.now c.requires.has_rows none in
    ap (rows_of g.P.Primvar.numbers) c.in_ok-values.ensures.items ∙ sym (ap (λ order. evaluated_rows (map g.P.Primvar.numbers c.args.controls.now) (picked c.args.table.now order)) asked)

pub returns-in_default-clause-taken : goal.returns-in_default-clause-taken
returns-in_default-clause-taken g c =
    let none = none-over g.P.Primvar.numbers c.first.result c.args.controls.now c.args.table.now c.facts.ensures c.requires.can.each c.first.ensures.value c.in_default.is in
    let asked = none-asked c.args.table.now c.args.rows.now c.requires.has_rows none in
    omega (arith, ap (λ order. entries_of (rows_at c.args.table.now order).rows) asked)

pub push_rows-requires-clause-like : goal.push_rows-requires-clause-like
push_rows-requires-clause-like g c = first-numbers g.P.Primvar.numbers c.first.result c.args.controls.now c.in-Some.like c.first.ensures.value c.in-Some.is
