use Rattle.std.proofs.Common.{◌≡◌, arith, length, vec_len, rules}
use Rattle.raw_mesh.proofs.PiecesLemmas.{length-pieces}
use Rattle.raw_mesh.proofs.mesh.RawMesh.faces.Goals as goal

pub returns : goal.returns
returns c =
    let n : vec_len c.self.inside.faces.starts ≡ length c.self.inside.faces.starts.items = search rules in
    rw (← c.self.view_is) (omega (arith, c.len.ensures, n, length-pieces c.self.inside.faces.starts.items c.self.inside.faces.corners.items))
