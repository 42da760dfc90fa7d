use Rattle.subdiv_model.specs.ReadObj.{obj_lines}
use Rattle.obj_laws.proofs.ShortNumberLemmas.{texture-bounded, texture-short}
use Rattle.obj_laws.proofs.short_numbers.texture_values_are_short.Goals as goal

pub returns-clause-common : goal.returns-clause-common
returns-clause-common c = λ text least good. texture-bounded (obj_lines text) least good

pub returns-clause-values : goal.returns-clause-values
returns-clause-values c = λ text least good. texture-short text least good (texture-bounded (obj_lines text) least good)
