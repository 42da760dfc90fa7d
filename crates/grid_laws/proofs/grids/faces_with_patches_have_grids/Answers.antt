use Rattle.grid_laws.proofs.GridLemmas.{patch-grid, patch-middle, grid-patch, grid-points}
use Rattle.grid_laws.proofs.grids.faces_with_patches_have_grids.Goals as goal

pub returns-clause-grid : goal.returns-clause-grid
returns-clause-grid c = λ level face on. patch-grid level face on.well on.inside on.is

pub returns-clause-middle : goal.returns-clause-middle
returns-clause-middle c = λ level face h. patch-middle level face h

pub returns-clause-patch : goal.returns-clause-patch
returns-clause-patch c = λ level face grid about. grid-patch level face grid about.is about.middle

pub returns-clause-same : goal.returns-clause-same
returns-clause-same c = λ level face grid about. grid-points level face grid about.well about.is about.middle
