use Rattle.grid_laws.proofs.GridLemmas.{grid-from}
use Rattle.grid_laws.proofs.NextGridLemmas.{next-grid}
use Rattle.grid_laws.proofs.grids.next_levels_have_grids.Goals as goal

pub returns-clause-turned : goal.returns-clause-turned
returns-clause-turned c = λ level grid k is. grid-from level grid k is

pub returns-clause-next : goal.returns-clause-next
returns-clause-next c = λ level grid well is. next-grid level well grid is
