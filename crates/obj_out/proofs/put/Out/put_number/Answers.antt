use Rattle.std.proofs.Common.{refl}
use Rattle.obj_out.proofs.PutsLemmas.{puts-behind, puts-cut}
use Rattle.obj_out.proofs.put.Out.put_number.Goals as goal

pub returns-in_err-reserve : goal.returns-in_err-reserve
returns-in_err-reserve g c = puts-cut _ c.from_residual.ensures.0 c.in_err-reserve.ensures.puts

pub returns : goal.returns
returns g c = puts-behind c.in_ok-reserve.ensures.puts refl refl c.push_number.ensures.text
