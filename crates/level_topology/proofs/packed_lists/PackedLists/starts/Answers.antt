use Rattle.level_topology.proofs.PieceLemmas.{gaps-pieces, pieces-whole}
use Rattle.level_topology.proofs.packed_lists.PackedLists.starts.Goals as goal

pub returns-clause-gaps : goal.returns-clause-gaps
returns-clause-gaps g c = rw (← c.self.view_is, c.deref.ensures.value) (gaps-pieces _ _ c.self.invariant.ascend)

pub returns-clause-ascend : goal.returns-clause-ascend
returns-clause-ascend g c =
    rw (← c.self.view_is, c.deref.ensures.value, pieces-whole c.self.inside.starts.items c.self.inside.items.items c.self.invariant.ascend c.self.invariant.begins) c.self.invariant.ascend
