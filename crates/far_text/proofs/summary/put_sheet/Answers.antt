use Rattle.obj_out.proofs.PutsLemmas.{puts-after, puts-cut, puts-same}
use Rattle.far_text.proofs.CountLineLemmas.{sheet-by-words}
use Rattle.far_text.proofs.summary.put_sheet.Goals as goal

pub returns-in_err-put_count : goal.returns-in_err-put_count
returns-in_err-put_count g c =
    puts-same (sheet-by-words c.args.summary.now.points c.args.summary.now.faces)
    (puts-cut _ c.from_residual.ensures.0 c.in_err-put_count.ensures)

pub returns-in_err-put_count-2 : goal.returns-in_err-put_count-2
returns-in_err-put_count-2 g c =
    puts-same (sheet-by-words c.args.summary.now.points c.args.summary.now.faces)
    (puts-after c.in_ok-put_count.ensures (puts-cut _ c.from_residual-in_err-put_count-2.ensures.0 c.in_err-put_count-2.ensures))

pub returns : goal.returns
returns g c =
    puts-same (sheet-by-words c.args.summary.now.points c.args.summary.now.faces)
    (puts-after c.in_ok-put_count.ensures (puts-after c.in_ok-put_count-2.ensures c.put_byte.ensures))
