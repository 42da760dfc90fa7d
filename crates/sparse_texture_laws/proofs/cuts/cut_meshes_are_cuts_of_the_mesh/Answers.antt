use Rattle.sparse_texture_laws.proofs.CutLemmas.{mesh-cut, mesh-same}
use Rattle.sparse_texture_laws.proofs.cuts.cut_meshes_are_cuts_of_the_mesh.Goals as goal

pub returns-clause-cut : goal.returns-clause-cut
returns-clause-cut c = mesh-cut

pub returns-clause-faces : goal.returns-clause-faces
returns-clause-faces c = mesh-same
