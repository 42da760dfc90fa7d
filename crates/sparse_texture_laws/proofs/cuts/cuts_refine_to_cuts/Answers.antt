use Rattle.sparse_texture_laws.proofs.FaceLemmas.{after-same}
use Rattle.sparse_texture_laws.proofs.CutLemmas.{cut-faces, cut-after}
use Rattle.sparse_texture_laws.proofs.cuts.cuts_refine_to_cuts.Goals as goal

pub returns-clause-faces : goal.returns-clause-faces
returns-clause-faces c = cut-faces

pub returns-clause-same : goal.returns-clause-same
returns-clause-same c = λ base cut k same. after-same base cut same k

pub returns-clause-cuts : goal.returns-clause-cuts
returns-clause-cuts c = λ name base cut k is. cut-after name base cut is k
