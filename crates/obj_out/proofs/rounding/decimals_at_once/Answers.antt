use Rattle.obj_out.proofs.RoundingLemmas.{units-below}
use Rattle.obj_out.proofs.rounding.decimals_at_once.Goals as goal

pub returns-clause-units : goal.returns-clause-units
returns-clause-units c = units-below c.args.rest c.args.den c.args.digits _ _ c.requires.below c.pow.ensures c.quotient-units.ensures
