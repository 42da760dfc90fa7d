use Rattle.std.proofs.Common.{◌∙◌, ◌+◌, arith, length, map, ap}
use Rattle.std.proofs.lemmas.List.{take_all}
use Rattle.stencil_apply.specs.Table.{entries_of}
use Rattle.primvar_refine.specs.View.{rows_of}
use Rattle.channel_refine.proofs.ControlLemmas.{control-alike, control-fits}
use Rattle.channel_refine.proofs.EvaluatedLemmas.{evaluated_rows}
use Rattle.channel_refine.proofs.SparseRowLemmas.{picked}
use Rattle.channel_refine.proofs.sparse_rows.push_rows.Goals as goal

pub loop-row-init : goal.loop-row-init
loop-row-init g c = record {
  values = ap (rows_of g.P.Primvar.numbers) c.requires.empty;
  count = ap length c.requires.empty;
  room = c.requires.room;
  taken = omega arith;
}

pub sum_at-value-requires-clause-same_length : goal.sum_at-value-requires-clause-same_length
sum_at-value-requires-clause-same_length g c =
    control-alike g.P.Primvar.numbers c.args.controls.now c.args.table.now c.requires.can (g.P.Primvar.numbers c.args.like.now) c.requires.like

pub sum_at-value-requires-clause-fits : goal.sum_at-value-requires-clause-fits
sum_at-value-requires-clause-fits g c = control-fits g.P.Primvar.numbers c.args.controls.now c.args.table.now c.requires.can

pub returns-clause-values : goal.returns-clause-values
returns-clause-values g c =
    c.loop-row.invariant.values
    ∙ ap (λ order. evaluated_rows (map g.P.Primvar.numbers c.args.controls.now) (picked c.args.table.now order)) (take_all c.loop-row.row-index c.args.rows.now c.loop-row-test.false)

pub returns-clause-steps : goal.returns-clause-steps
returns-clause-steps g c =
    c.loop-row.invariant.taken ∙ ap (λ order. c.args.steps.now + entries_of (picked c.args.table.now order)) (take_all c.loop-row.row-index c.args.rows.now c.loop-row-test.false)
