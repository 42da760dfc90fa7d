use Rattle.obj_out.proofs.PutsLemmas.{puts-after, puts-cut, puts-same}
use Rattle.far_text.proofs.MapLemmas.{position-by-words}
use Rattle.far_text.proofs.map.put_position.Goals as goal

pub returns-in_err-put_bytes : goal.returns-in_err-put_bytes
returns-in_err-put_bytes g c =
    puts-same (position-by-words c.args.grid c.args.position) (puts-cut _ c.from_residual.ensures.0 c.in_err-put_bytes.ensures)

pub returns-in_err-put_steps : goal.returns-in_err-put_steps
returns-in_err-put_steps g c =
    puts-same (position-by-words c.args.grid c.args.position)
    (puts-after c.in_ok-put_bytes.ensures (puts-cut _ c.from_residual-in_err-put_steps.ensures.0 c.in_err-put_steps.ensures))

pub returns-in_err-put_steps-2 : goal.returns-in_err-put_steps-2
returns-in_err-put_steps-2 g c =
    puts-same (position-by-words c.args.grid c.args.position)
    (puts-after c.in_ok-put_bytes.ensures (puts-after c.in_ok-put_steps.ensures
    (puts-cut _ c.from_residual-in_err-put_steps-2.ensures.0 c.in_err-put_steps-2.ensures)))

pub returns : goal.returns
returns g c =
    puts-same (position-by-words c.args.grid c.args.position)
    (puts-after c.in_ok-put_bytes.ensures (puts-after c.in_ok-put_steps.ensures (puts-after c.in_ok-put_steps-2.ensures c.put_byte.ensures)))
