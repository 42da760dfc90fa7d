use Rattle.obj_out.proofs.PutsLemmas.{puts-after, puts-cut}
use Rattle.far_text.proofs.words.put_pair.Goals as goal

pub returns-in_err-put_number : goal.returns-in_err-put_number
returns-in_err-put_number g c =
    puts-cut _ c.from_residual.ensures.0 c.in_err-put_number.ensures

pub returns-in_err-put_byte : goal.returns-in_err-put_byte
returns-in_err-put_byte g c =
    puts-after c.in_ok-put_number.ensures (puts-cut _ c.from_residual-in_err-put_byte.ensures.0 c.in_err-put_byte.ensures)

pub returns : goal.returns
returns g c =
    puts-after c.in_ok-put_number.ensures (puts-after c.in_ok-put_byte.ensures c.put_number-2.ensures)
