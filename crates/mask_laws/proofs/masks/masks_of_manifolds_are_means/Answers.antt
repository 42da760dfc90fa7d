use Rattle.mask_laws.proofs.MeanLemmas.{means-levels, means-meshes}
use Rattle.mask_laws.proofs.masks.masks_of_manifolds_are_means.Goals as goal

pub returns-clause-level : goal.returns-clause-level
returns-clause-level c = λ level scheme k is. means-levels level scheme k is.formed is.manifold is.sharp_boundary

pub returns-clause-mesh : goal.returns-clause-mesh
returns-clause-mesh c = λ mesh scheme k is tags. means-meshes mesh scheme k is.manifold is.over_points tags.creases tags.corner_tags
