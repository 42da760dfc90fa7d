use Rattle.texture_laws.proofs.CutFanLemmas.{cut-manifold}
use Rattle.texture_laws.proofs.cuts.cut_meshes_are_manifolds.Goals as goal

pub returns-clause-joined_fans : goal.returns-clause-joined_fans
returns-clause-joined_fans c = cut-manifold

pub returns-clause-manifold : goal.returns-clause-manifold
returns-clause-manifold c = λ points mesh is. cut-manifold mesh is.simple is.sides_once
