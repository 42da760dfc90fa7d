use Rattle.std.proofs.Common.{arith, length, ap}
use Rattle.subdiv_model.specs.ObjMesh.{ObjMesh}
use Rattle.raw_mesh.proofs.PiecesLemmas.{length-pieces}
use Rattle.raw_mesh.proofs.mesh.RawMesh.face.Goals as goal

pub piece-requires-clause-inside : goal.piece-requires-clause-inside
piece-requires-clause-inside c =
    let h = ap (λ (m : ObjMesh). length m.faces) c.self.view_is in
    rw c.deref.ensures.value (omega (arith, h, c.requires, length-pieces c.self.inside.faces.starts.items c.self.inside.faces.corners.items))

pub returns : goal.returns
returns c = rw (← c.self.view_is, ← c.deref.ensures.value, ← c.deref-2.ensures.value) c.piece.ensures
