use Rattle.obj_laws.proofs.NumeralKindLemmas.{decimal-no-fraction}
use Rattle.obj_laws.proofs.numerals.decimals_are_no_fractions.Goals as goal

pub returns : goal.returns
returns c = decimal-no-fraction
