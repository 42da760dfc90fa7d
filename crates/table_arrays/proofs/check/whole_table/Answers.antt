use Rattle.std.proofs.Common.{◌+◌, length, ap, sym, ◌∙◌}
use Rattle.subdiv_model.specs.Table.{Table}
use Rattle.table_arrays.specs.Texts.{IsRefusedFor}
use Rattle.table_arrays.specs.Checked.{IsWhole, check_refusal}
use Rattle.table_arrays.proofs.CheckLemmas.{bytes-behind, handed-on, read-refused}
use Rattle.table_arrays.proofs.check.whole_table.Goals as goal

pub returns-in_err-read : goal.returns-in_err-read
returns-in_err-read c =
    handed-on (IsWhole c.args.text.now) (λ found. (own : Table) → IsRefusedFor (check_refusal own c.args.text.now) found) _ c.in_err-read.field-0.0 c.from_residual.ensures.0 c.from_residual.ensures.1
    (read-refused c.args.text.now c.in_err-read.field-0.0 c.in_err-read.ensures)

pub returns : goal.returns
returns c =
    bytes-behind c.args.text.now c.in_ok-read.read c.in_ok-read.ensures (c.rows-line.result + 2) c.record_of.result (sym c.is_whole-whole.ensures ∙ c.if-whole.false)
    (ap (λ n. n + 2) (c.rows-line.ensures ∙ ap (λ (t : Table). length t.rows) c.into_table-table.ensures)) c.record_of.ensures.numbers
