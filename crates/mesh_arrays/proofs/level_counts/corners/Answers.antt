use Rattle.mesh_arrays.proofs.StartLemmas.{last-start}
use Rattle.mesh_arrays.proofs.level_counts.corners.Goals as goal

pub returns : goal.returns
returns c = last-start _ _ c.corner_starts-starts.ensures.ascend
