use Rattle.std.proofs.Common.{rules}
use Rattle.obj_out.proofs.PutsLemmas.{puts-after, puts-cut}
use Rattle.far_text.proofs.points.put_valued.Goals as goal

pub returns-in_err-put_bytes : goal.returns-in_err-put_bytes
returns-in_err-put_bytes g c = puts-cut _ c.from_residual.ensures.0 c.in_err-put_bytes.ensures

-- asked for by name, so that a body that breaks it is refused at once
pub returns : goal.returns
returns g c = search (rules, puts-after)
