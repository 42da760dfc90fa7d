use Rattle.std.proofs.Common.{ap}
use Rattle.theorems.proofs.SeamLemmas.{seams-linear, seams-exact, seams-shape}
use Rattle.theorems.proofs.seams.texture_is_linear_on_sharp_seams.Goals as goal

pub returns-clause-linear : goal.returns-clause-linear
returns-clause-linear c = λ end controls. (seams-linear end.mesh end.manifold controls end.k end.p end.is_end).same

pub returns-clause-above_zero : goal.returns-clause-above_zero
returns-clause-above_zero c =
    λ end controls. let one = seams-linear end.mesh end.manifold controls end.k end.p end.is_end in (one.first, one.second)

pub returns-clause-descendants : goal.returns-clause-descendants
returns-clause-descendants c = λ mesh k edge manifold. seams-exact mesh manifold k edge

pub returns-clause-same_points : goal.returns-clause-same_points
returns-clause-same_points c = λ mesh k. ap (λ shape. shape.0) (seams-shape mesh k)

pub returns-clause-same_faces : goal.returns-clause-same_faces
returns-clause-same_faces c = λ mesh k. ap (λ shape. shape.1) (seams-shape mesh k)
