use Rattle.std.proofs.Common.{◌+◌, ◌∙◌, ap, sym, subst, take, length}
use Rattle.std.proofs.lemmas.List.{length-map}
use Rattle.stencil_apply.specs.Table.{Share, Table}
use Rattle.stencil_factory.specs.Composing.{AreComposedRows}
use Rattle.stencil_factory.proofs.ComposedLemmas.{next-rows, few-entries, few-rows}
use Rattle.stencil_factory.proofs.compose.put_row.Goals as goal

pub put_entries-requires-clause-entries : goal.put_entries-requires-clause-entries
put_entries-requires-clause-entries g c =
    few-entries (g.R.RowMasks.level c.args.rows.now) c.args.table.now (g.R.RowMasks.masks c.args.rows.now) c.args.row c.args.builder.now.table.rows _ c.requires.known c.requires.done
    c.in_ok-compose_row.ensures.row _ _ (ap length c.indices.ensures ∙ length-map c.compose_row.new.buffers.entries (λ (share : Share). share.0)) (c.in_ok-can_add.ensures.few c.if-not-branch.false)

pub put_entries-requires-clause-rows : goal.put_entries-requires-clause-rows
put_entries-requires-clause-rows g c =
    few-rows (g.R.RowMasks.level c.args.rows.now) c.args.table.now (g.R.RowMasks.masks c.args.rows.now) c.args.row c.args.builder.now.table.rows _ c.requires.known c.requires.done
    c.in_ok-compose_row.ensures.row (put_entries-requires-clause-entries g c)

pub returns-clause-done : goal.returns-clause-done
returns-clause-done g c put =
    subst (λ (t : Table). AreComposedRows (g.R.RowMasks.level c.args.rows.now) c.args.table.now (take (c.args.row + 1) (g.R.RowMasks.masks c.args.rows.now)) t.rows)
    (sym c.in_ok-put_entries.ensures.added)
    (next-rows (g.R.RowMasks.level c.args.rows.now) c.args.table.now (g.R.RowMasks.masks c.args.rows.now) c.args.row c.args.builder.now.table.rows _ c.requires.known c.requires.done
    c.in_ok-compose_row.ensures.row)
