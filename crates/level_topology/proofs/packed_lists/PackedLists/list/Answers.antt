use Rattle.std.proofs.Common.{arith, length, ap}
use Rattle.level_topology.specs.Packed.{Paired}
use Rattle.level_topology.proofs.PieceLemmas.{length-pieces}
use Rattle.level_topology.proofs.packed_lists.PackedLists.list.Goals as goal

pub piece-requires-clause-inside : goal.piece-requires-clause-inside
piece-requires-clause-inside g c =
    let h = ap (λ (p : Paired g.row.T.Denot). length p.lists) c.self.view_is in
    rw c.deref.ensures.value (omega (arith, h, c.requires, length-pieces c.self.inside.starts.items c.self.inside.items.items))

pub returns : goal.returns
returns g c = rw (← c.self.view_is, ← c.deref.ensures.value, ← c.deref-2.ensures.value) c.piece.ensures
