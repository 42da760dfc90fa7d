use Rattle.std.proofs.Common.{ap, sym, ◌∙◌}
use Rattle.stencil_apply.specs.Arrays.{row_of}
use Rattle.subdiv_model.specs.ReadTable.{is_row_in_range}
use Rattle.table_file.specs.Row.{row_in, cause_in_range}
use Rattle.table_file.proofs.RowLemmas.{row-good, read-some}
use Rattle.table_file.proofs.rows.read_row.Goals as goal

pub add_row-requires-clause-row : goal.add_row-requires-clause-row
add_row-requires-clause-row c =
    let header = c.args.header.now in
    let den = c.in-Some-2.denominator in
    let read = read-some c.header.inside.controls c.in-Some.words c.read_values.new.row.items c.in_ok-denominator.field-0 den c.in-Some-2.is c.in_ok-denominator.ensures in
    row-good header c.args.left c.args.rows.now.entries c.args.rows.now.builder.table.controls (row_of den c.read_values.new.row.items) (row_in c.in-Some.words)
    c.cause_in_range-cause.result (sym c.is_some.ensures ∙ c.if-is_some.false)
    (c.cause_in_range-cause.ensures ∙ ap (λ items. cause_in_range header c.args.left c.args.rows.now.entries (row_of den items)) c.deref.ensures.value)
    read.1 (sym (ap (λ h. is_row_in_range h.controls (row_in c.in-Some.words)) c.header.view_is) ∙ read.0) c.requires.good.controls
