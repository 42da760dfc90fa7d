use Rattle.std.proofs.Common.{arith}
use Rattle.obj_out.proofs.RoundingLemmas.{odd-none, odd-some}
use Rattle.obj_out.proofs.rounding.last_place.Goals as goal

pub returns-then-digits-eq0 : goal.returns-then-digits-eq0
returns-then-digits-eq0 c = odd-none _ _ _ (omega arith) c.requires

pub returns-else-digits-eq0 : goal.returns-else-digits-eq0
returns-else-digits-eq0 c = odd-some c.args.digits c.args.whole c.args.units c.if-digits-eq0.false
