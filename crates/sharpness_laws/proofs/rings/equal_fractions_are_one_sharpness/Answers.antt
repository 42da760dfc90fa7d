use Rattle.sharpness_laws.proofs.SameFractionLemmas.{sharpness-same, at_most_one-same, chaikin_value-same}
use Rattle.sharpness_laws.proofs.rings.equal_fractions_are_one_sharpness.Goals as goal

pub returns-clause-sharpness : goal.returns-clause-sharpness
returns-clause-sharpness c = sharpness-same

pub returns-clause-weight : goal.returns-clause-weight
returns-clause-weight c = at_most_one-same

pub returns-clause-child : goal.returns-clause-child
returns-clause-child c = chaikin_value-same
