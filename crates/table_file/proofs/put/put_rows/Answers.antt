use Rattle.std.proofs.Common.{arith, []}
use Rattle.obj_out.proofs.PutsLemmas.{puts-next, puts-stop, puts-same}
use Rattle.stencil_apply.specs.Table.{Row}
use Rattle.subdiv_model.specs.TableText.{row_text}
use Rattle.table_file.proofs.LineLemmas.{all-rows}
use Rattle.table_file.proofs.put.put_rows.Goals as goal

-- the row at a place beyond the end
abbrev none : Row
none = record { den = 1; shares = [] }

pub returns-in_err-put_row : goal.returns-in_err-put_row
returns-in_err-put_row g c =
    puts-stop row_text c.args.table.now.rows c.loop-row.row none
    (omega (arith, c.loop-row-test.true, c.rows-row-end.ensures)) c.from_residual.ensures.0 c.loop-row.invariant
    c.in_err-put_row.ensures

pub loop-row-preserved : goal.loop-row-preserved
loop-row-preserved g c =
    puts-next row_text c.args.table.now.rows c.loop-row.row none
    (omega (arith, c.loop-row-test.true, c.rows-row-end.ensures)) c.loop-row.invariant
    c.in_ok-put_row.ensures

pub returns : goal.returns
returns g c =
    puts-same (all-rows c.args.table.now.rows c.loop-row.row
    (omega (arith, c.loop-row-test.false, c.rows-row-end.ensures))) c.loop-row.invariant
