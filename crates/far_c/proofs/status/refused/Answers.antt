use Rattle.far_fault.specs.View.{fault_of}
use Rattle.array_answers.proofs.RecordStatusLemmas.{record-status}
use Rattle.far_c.proofs.status.refused.Goals as goal

pub returns-clause-status : goal.returns-clause-status
returns-clause-status c = record-status c.record_of.result (fault_of c.args.fault.now) c.record_of.ensures.numbers
