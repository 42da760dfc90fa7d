use Rattle.obj_out.proofs.PutsLemmas.{puts-after, puts-cut, puts-same}
use Rattle.far_text.proofs.LineLemmas.{hole-by-words}
use Rattle.far_text.proofs.holes.put_hole.Goals as goal

pub returns-in_err-put_bytes : goal.returns-in_err-put_bytes
returns-in_err-put_bytes g c =
    puts-same (hole-by-words c.args.f)
    (puts-cut _ c.from_residual.ensures.0 c.in_err-put_bytes.ensures)

pub returns-in_err-put_number_after : goal.returns-in_err-put_number_after
returns-in_err-put_number_after g c =
    puts-same (hole-by-words c.args.f)
    (puts-after c.in_ok-put_bytes.ensures (puts-cut _ c.from_residual-in_err-put_number_after.ensures.0 c.in_err-put_number_after.ensures))

pub returns : goal.returns
returns g c =
    puts-same (hole-by-words c.args.f)
    (puts-after c.in_ok-put_bytes.ensures (puts-after c.in_ok-put_number_after.ensures c.put_byte.ensures))
