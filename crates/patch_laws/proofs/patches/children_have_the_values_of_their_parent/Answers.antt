use Rattle.patch_laws.proofs.HalvedPatchLemmas.{child-step, child-controls}
use Rattle.patch_laws.proofs.patches.children_have_the_values_of_their_parent.Goals as goal

pub returns-clause-step : goal.returns-clause-step
returns-clause-step c = child-step

pub returns-clause-controls : goal.returns-clause-controls
returns-clause-controls c = child-controls
