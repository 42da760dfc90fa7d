use Rattle.obj_out.proofs.PutsLemmas.{puts-after, puts-cut, puts-same}
use Rattle.far_text.proofs.CountLineLemmas.{agreement-by-words}
use Rattle.far_text.proofs.stored.put_agreement.Goals as goal

pub returns-in_err-put_count : goal.returns-in_err-put_count
returns-in_err-put_count g c =
    puts-same (agreement-by-words c.args.rows) (puts-cut _ c.from_residual.ensures.0 c.in_err-put_count.ensures)

pub returns : goal.returns
returns g c = puts-same (agreement-by-words c.args.rows) (puts-after c.in_ok-put_count.ensures c.put_byte.ensures)
