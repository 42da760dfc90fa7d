use Rattle.mask_laws.proofs.MeanLemmas.{moved-levels, moved-meshes}
use Rattle.mask_laws.proofs.ValueLemmas.{refined-moved_by}
use Rattle.mask_laws.proofs.values.translating_controls_translates_points.Goals as goal

pub returns-clause-manifold : goal.returns-clause-manifold
returns-clause-manifold c = λ level r t is.
    moved-levels level r.scheme r.controls.numbers t r.steps r.controls.one_each is.formed is.manifold is.sharp_boundary

pub returns-clause-mesh : goal.returns-clause-mesh
returns-clause-mesh c = λ mesh r t is tags.
    moved-meshes mesh r.scheme r.controls.numbers t r.steps r.controls.one_each is.manifold is.over_points tags.creases tags.corner_tags

pub returns-clause-means : goal.returns-clause-means
returns-clause-means c = λ level r t.
    refined-moved_by level r.scheme r.controls.numbers t r.steps r.controls.one_each
