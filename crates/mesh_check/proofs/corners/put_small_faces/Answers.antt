use Rattle.std.proofs.Common.{nat_lt, length, refl, arith}
use Rattle.subdiv_model.specs.Polygons.{Polygon}
use Rattle.subdiv_model.specs.MeshFault.{FaceTooSmall}
use Rattle.mesh_check.proofs.PlaceLemmas.{place-put, places-end}
use Rattle.mesh_check.proofs.corners.put_small_faces.Goals as goal

pub loop-f-preserved : goal.loop-f-preserved
loop-f-preserved c = place-put FaceTooSmall (λ (polygon : Polygon). nat_lt (length polygon) 3) c.args.raw.now.faces c.loop-f.f c.face.result.now _ _ _ _ c.face.ensures refl c.in_ok-put_if.ensures c.loop-f.invariant

pub returns : goal.returns
returns c = places-end FaceTooSmall (λ (polygon : Polygon). nat_lt (length polygon) 3) c.args.raw.now.faces c.loop-f.f _ _ (omega (arith, c.loop-f-test.false, c.faces-f-end.ensures)) c.loop-f.invariant
