use Rattle.obj_out.proofs.PutsLemmas.{puts-after, puts-cut}
use Rattle.obj_out.proofs.put.Out.put_bytes.Goals as goal

pub returns-in_err-hand_on : goal.returns-in_err-hand_on
returns-in_err-hand_on g c = puts-cut _ c.from_residual.ensures.0 c.in_err-hand_on.ensures.puts

pub returns : goal.returns
returns g c = puts-after c.in_ok-hand_on.ensures.puts c.put_first.ensures
