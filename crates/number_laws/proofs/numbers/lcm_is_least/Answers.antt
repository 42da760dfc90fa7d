use Rattle.number_laws.proofs.MultipleLemmas.{lcm-first, lcm-second, lcm-least, each-divides, least-of-all}
use Rattle.number_laws.proofs.numbers.lcm_is_least.Goals as goal

pub returns-clause-first : goal.returns-clause-first
returns-clause-first c a b above below = lcm-first a b

pub returns-clause-second : goal.returns-clause-second
returns-clause-second c a b above below = lcm-second a b

pub returns-clause-least : goal.returns-clause-least
returns-clause-least c a b n above below = lcm-least a b n below

pub returns-clause-each : goal.returns-clause-each
returns-clause-each c numbers above = each-divides numbers

pub returns-clause-least_of_all : goal.returns-clause-least_of_all
returns-clause-least_of_all c = least-of-all
