use Rattle.std.proofs.Common.{Err, ap}
use Rattle.far_engine.proofs.InputLemmas.{read-fault}
use Rattle.far_engine.proofs.input.bytes_of.Goals as goal

pub returns-in-Err-clause-fault : goal.returns-in-Err-clause-fault
returns-in-Err-clause-fault g c =
    λ command whole.
    read-fault g.S.Source command whole c.args.source.now c.read_all.new.source _ c.in-Err.fault c.fault_of_input.ensures c.read_all.ensures.later c.in-Err.ensures.prefix
    (λ e. c.in-Err.ensures.long (ap Err e)) (λ e. c.in-Err.ensures.failed (ap Err e))
