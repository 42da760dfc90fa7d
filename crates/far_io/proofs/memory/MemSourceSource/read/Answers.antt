use Rattle.far_io.proofs.PieceLemmas.{OnOk-rest}
use Rattle.far_io.proofs.memory.MemSourceSource.read.Goals as goal

pub returns-clause-rest : goal.returns-clause-rest
returns-clause-rest c =
    OnOk-rest _ _ _ _ _ c.read.ensures.count c.read.auto.buf c.read.ensures.rest
