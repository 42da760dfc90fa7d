use Rattle.obj_out.proofs.PutsLemmas.{puts-after, puts-cut}
use Rattle.far_text.proofs.summary.put_summary.Goals as goal

pub returns-in_err-put_sheet : goal.returns-in_err-put_sheet
returns-in_err-put_sheet g c =
    puts-cut _ c.from_residual.ensures.0 c.in_err-put_sheet.ensures

pub returns-in_err-put_depth : goal.returns-in_err-put_depth
returns-in_err-put_depth g c =
    puts-after c.in_ok-put_sheet.ensures (puts-cut _ c.from_residual-in_err-put_depth.ensures.0 c.in_err-put_depth.ensures)

pub returns : goal.returns
returns g c =
    puts-after c.in_ok-put_sheet.ensures (puts-after c.in_ok-put_depth.ensures c.put_valued.ensures)
