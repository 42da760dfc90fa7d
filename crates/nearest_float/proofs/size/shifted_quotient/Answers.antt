use Rattle.std.proofs.Common.{arith}
use Rattle.nearest_float.proofs.ShiftLemmas.{quotient-few, quotient-and-rest, rest-below}
use Rattle.nearest_float.proofs.size.shifted_quotient.Goals as goal

pub overflow_cast-result : goal.overflow_cast-result
overflow_cast-result c = let few = quotient-few c.args.top c.args.shift c.requires.fits c.requires.short in record { fits = omega (arith, few) }

pub returns-clause-whole : goal.returns-clause-whole
returns-clause-whole c = quotient-and-rest c.args.top c.args.shift c.requires.fits c.requires.short

pub returns-clause-rest : goal.returns-clause-rest
returns-clause-rest c = rest-below c.args.top c.args.shift c.requires.fits c.requires.short

pub returns-clause-few : goal.returns-clause-few
returns-clause-few c = quotient-few c.args.top c.args.shift c.requires.fits c.requires.short
