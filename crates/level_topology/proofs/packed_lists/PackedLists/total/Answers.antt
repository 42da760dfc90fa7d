use Rattle.std.proofs.Common.{◌≡◌, ◌∙◌, ap, sym, length, rules}
use Rattle.std.specs.List.{sum_by}
use Rattle.level_topology.specs.Packed.{Paired}
use Rattle.level_topology.proofs.PieceLemmas.{pieces-whole}
use Rattle.level_topology.proofs.packed_lists.PackedLists.total.Goals as goal

pub returns : goal.returns
returns g c =
    let n : c.len.result ≡ length c.self.inside.items.items = search rules in
    n ∙ sym (pieces-whole c.self.inside.starts.items c.self.inside.items.items c.self.invariant.ascend c.self.invariant.begins) ∙ ap (λ (p : Paired g.row.T.Denot). sum_by length p.lists) c.self.view_is
