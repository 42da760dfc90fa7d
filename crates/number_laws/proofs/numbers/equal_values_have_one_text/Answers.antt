use Rattle.number_laws.proofs.TextLemmas.{fraction_text-same}
use Rattle.number_laws.proofs.numbers.equal_values_have_one_text.Goals as goal

pub returns : goal.returns
returns c x y above below same = fraction_text-same x.num y.num x.den y.den above below same
