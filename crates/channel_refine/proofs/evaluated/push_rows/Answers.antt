use Rattle.std.proofs.lemmas.Grind.{common_steps}
use Rattle.std.proofs.Common.{arith, map, ap, sym, ◌∙◌}
use Rattle.std.proofs.lemmas.List.{take_all, length-map}
use Rattle.stencil_apply.specs.Table.{entries_of}
use Rattle.primvar_refine.specs.View.{rows_of}
use Rattle.channel_refine.proofs.EvaluatedLemmas.{evaluated_row, evaluated_rows}
use Rattle.channel_refine.proofs.ControlLemmas.{control-alike, control-fits, rows-counted}
use Rattle.channel_refine.proofs.evaluated.push_rows.Goals as goal

pub loop-row-init : goal.loop-row-init
loop-row-init g c = record {
  values = ap (rows_of g.P.Primvar.numbers) c.requires.empty;
  fits = c.requires.fits;
  taken = omega arith;
}

pub sum_at-value-requires-clause-inside : goal.sum_at-value-requires-clause-inside
sum_at-value-requires-clause-inside g c = omega (arith, c.loop-row-test.true, c.rows-row-end.ensures)

pub sum_at-value-requires-clause-controls : goal.sum_at-value-requires-clause-controls
sum_at-value-requires-clause-controls g c = sym (length-map c.args.controls.now g.P.Primvar.numbers) ∙ c.requires.can.each

pub sum_at-value-requires-clause-same_length : goal.sum_at-value-requires-clause-same_length
sum_at-value-requires-clause-same_length g c =
    control-alike g.P.Primvar.numbers c.args.controls.now c.args.table.now c.requires.can (g.P.Primvar.numbers c.args.like.now) c.requires.like

pub sum_at-value-requires-clause-fits : goal.sum_at-value-requires-clause-fits
sum_at-value-requires-clause-fits g c = control-fits g.P.Primvar.numbers c.args.controls.now c.args.table.now c.requires.can

pub push_reserved-requires : goal.push_reserved-requires
push_reserved-requires g c =
    let counted = rows-counted g.P.Primvar.numbers c.loop-row.values.items (evaluated_row (map g.P.Primvar.numbers c.args.controls.now)) c.args.table.now.rows c.loop-row.row
    (omega (arith, c.loop-row-test.true, c.rows-row-end.ensures)) c.loop-row.invariant.values in
    omega (arith, counted, c.loop-row.invariant.fits, c.loop-row-test.true, c.rows-row-end.ensures)

pub returns-clause-values : goal.returns-clause-values
returns-clause-values g c =
    c.loop-row.invariant.values
    ∙ ap (evaluated_rows (map g.P.Primvar.numbers c.args.controls.now)) (take_all c.loop-row.row c.args.table.now.rows (omega (arith, c.loop-row-test.false, c.rows-row-end.ensures)))

pub returns-clause-steps : goal.returns-clause-steps
returns-clause-steps g c =
    let all = ap entries_of (take_all c.loop-row.row c.args.table.now.rows (omega (arith, c.loop-row-test.false, c.rows-row-end.ensures))) in
    omega (arith, c.loop-row.invariant.taken, all)

-- asked for by name, so that a body that breaks it is refused at once
pub loop-row-preserved : goal.loop-row-preserved
loop-row-preserved g c = grind (arith, common_steps)
