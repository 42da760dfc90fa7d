use Rattle.std.proofs.Common.{refl}
use Rattle.texture_laws.proofs.CutLevelLemmas.{cut-boundary, cut-inside, cut-vertex-sharp, cut-vertex-plain, cut-vertex-smooth, cut-well-formed}
use Rattle.texture_laws.proofs.cuts.cut_levels_are_as_sharp_as_the_mesh.Goals as goal

pub returns-clause-boundary : goal.returns-clause-boundary
returns-clause-boundary c = λ mode mesh edge is. cut-boundary mesh mode edge is.is_edge is.is_at_boundary

pub returns-clause-edges : goal.returns-clause-edges
returns-clause-edges c = λ mode mesh edge is. cut-inside mesh mode edge is.is_edge is.is_inner

pub returns-clause-kept_sharp : goal.returns-clause-kept_sharp
returns-clause-kept_sharp c = λ mode mesh. cut-vertex-sharp mesh mode

pub returns-clause-vertices : goal.returns-clause-vertices
returns-clause-vertices c = λ mode mesh. cut-vertex-plain mesh mode

pub returns-clause-smooth_seams : goal.returns-clause-smooth_seams
returns-clause-smooth_seams c = cut-vertex-smooth

pub returns-clause-holes : goal.returns-clause-holes
returns-clause-holes c = λ mode mesh. refl

pub returns-clause-well_formed : goal.returns-clause-well_formed
returns-clause-well_formed c = λ mode mesh. cut-well-formed mesh mode
