use Rattle.stencil_session.proofs.LawLemmas.{state-after, controls-after, value-after}
use Rattle.stencil_session.proofs.laws.sessions_agree_with_their_tables.Goals as goal

pub returns-clause-state : goal.returns-clause-state
returns-clause-state c = state-after

pub returns-clause-controls : goal.returns-clause-controls
returns-clause-controls c = λ moved. controls-after moved.state moved.moves

pub returns-clause-values : goal.returns-clause-values
returns-clause-values c = λ moved row. value-after moved.state moved.moves row
