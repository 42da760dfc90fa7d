use Rattle.std.proofs.Common.{arith, length, ap}
use Rattle.level_topology.proofs.PieceLemmas.{length-pieces}
use Rattle.sparse_level.specs.Numbers.{NumberedFaces}
use Rattle.sparse_level.proofs.corners.NumberedCorners.list.Goals as goal

pub piece-requires-clause-inside : goal.piece-requires-clause-inside
piece-requires-clause-inside c =
    let h = ap (λ (n : NumberedFaces). length n.faces) c.self.view_is in
    rw c.deref.ensures.value (omega (arith, h, c.requires, length-pieces c.self.inside.starts.items c.self.inside.corners.items))

pub returns : goal.returns
returns c = rw (← c.self.view_is, ← c.deref.ensures.value, ← c.deref-2.ensures.value) c.piece.ensures
