use Rattle.nearest_float.specs.Binary.{binary64}
use Rattle.far_c.proofs.StatusLemmas.{fractions-answered, fractions-refused}
use Rattle.far_c.proofs.fractions.far_nearest_doubles.Goals as goal

pub returns-in-Ok-clause-answer : goal.returns-in-Ok-clause-answer
returns-in-Ok-clause-answer c =
    fractions-answered binary64 c.args.fractions.now c.args.out.now c.round_fractions64.new.out _ c.in-Ok.ensures.fault c.in-Ok.ensures.put

pub returns-in-Err-clause-answer : goal.returns-in-Err-clause-answer
returns-in-Err-clause-answer c =
    fractions-refused binary64 c.args.fractions.now c.args.out.now c.round_fractions64.new.out c.in-Err.found c.record_of_fraction_fault.result c.in-Err.ensures.fault
    c.record_of_fraction_fault.ensures.row c.record_of_fraction_fault.ensures.status c.in-Err.ensures.put
