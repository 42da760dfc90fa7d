use Rattle.subdiv_model.specs.ReadObj.{obj_lines}
use Rattle.obj_laws.proofs.ShortNumberLemmas.{positions-bounded, coordinates-short}
use Rattle.obj_laws.proofs.short_numbers.coordinates_are_short.Goals as goal

pub returns-clause-common : goal.returns-clause-common
returns-clause-common c = λ text least few good. positions-bounded (obj_lines text) least good few

pub returns-clause-points : goal.returns-clause-points
returns-clause-points c = λ text least few good. coordinates-short text least good (positions-bounded (obj_lines text) least good few)
