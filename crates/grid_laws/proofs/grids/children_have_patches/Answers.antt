use Rattle.grid_laws.proofs.ChildPatchLemmas.{child-inside, child-patch, child-points}
use Rattle.grid_laws.proofs.grids.children_have_patches.Goals as goal

pub returns-clause-inside : goal.returns-clause-inside
returns-clause-inside c = λ level face k inside h below. child-inside level face k inside h below

pub returns-clause-patch : goal.returns-clause-patch
returns-clause-patch c = λ level face k on below. child-patch level on.well face on.inside on.is k below

pub returns-clause-points : goal.returns-clause-points
returns-clause-points c = λ level face k on below. child-points level on.well face on.inside on.is k below
