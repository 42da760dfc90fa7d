use Rattle.patch_laws.proofs.CornerLemmas.{corner-step, corner-controls}
use Rattle.patch_laws.proofs.patches.corners_have_their_limits.Goals as goal

pub returns-clause-step : goal.returns-clause-step
returns-clause-step c = corner-step

pub returns-clause-controls : goal.returns-clause-controls
returns-clause-controls c = corner-controls
