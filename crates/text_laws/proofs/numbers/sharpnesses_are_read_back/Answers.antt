use Rattle.text_laws.proofs.SharpnessLemmas.{sharpness-back, sharpness-numeral, sharpness-unsigned}
use Rattle.text_laws.proofs.numbers.sharpnesses_are_read_back.Goals as goal

pub returns-clause-numeral : goal.returns-clause-numeral
returns-clause-numeral c = sharpness-numeral

pub returns-clause-unsigned : goal.returns-clause-unsigned
returns-clause-unsigned c = sharpness-unsigned

pub returns-clause-sharpness : goal.returns-clause-sharpness
returns-clause-sharpness c = sharpness-back
