use Rattle.number_laws.proofs.FractionLemmas.{gcd_of-is}
use Rattle.number_laws.proofs.numbers.gcd_is_greatest.Goals as goal

pub returns : goal.returns
returns c = gcd_of-is
