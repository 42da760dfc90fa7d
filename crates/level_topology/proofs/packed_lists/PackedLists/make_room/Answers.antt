use Rattle.std.proofs.Common.{ap, ◌≡◌, ◌≤◌, ◌+◌, ◌-◌, arith, rules, length}
use Rattle.std.specs.List.{sum_by}
use Rattle.level_topology.specs.Packed.{Paired}
use Rattle.level_topology.proofs.PieceLemmas.{length-pieces, pieces-whole, ascend-some}
use Rattle.level_topology.proofs.packed_lists.PackedLists.make_room.Goals as goal

pub overflow_add-len : goal.overflow_add-len
overflow_add-len g c =
    let h = ap (λ (p : Paired g.row.T.Denot). length p.lists) c.self.view_is in
    let n : c.len.result ≡ length c.self.inside.starts.items = search rules in
    record { fits = omega (arith, n, h, c.requires.few, length-pieces c.self.inside.starts.items c.self.inside.items.items) }

pub overflow_add-len-2 : goal.overflow_add-len-2
overflow_add-len-2 g c =
    let h = ap (λ (p : Paired g.row.T.Denot). sum_by length p.lists) c.self.view_is in
    let n : c.len-2.result ≡ length c.self.inside.items.items = search rules in
    record { fits = omega (arith, n, h, c.requires.short, pieces-whole c.self.inside.starts.items c.self.inside.items.items c.self.invariant.ascend c.self.invariant.begins) }

pub returns-clause-list_room : goal.returns-clause-list_room
returns-clause-list_room g c =
    let n : c.len.result ≡ length c.self.inside.starts.items = search rules in
    let m : (c.len.result - 1) + c.args.lists ≤ c.max-self-inside.result = search rules in
    rw (c.in_ok-reserve.ensures.items, c.in_ok-reserve-2.ensures.items)
    (omega (arith, n, m, length-pieces c.self.inside.starts.items c.self.inside.items.items))

pub returns-clause-item_room : goal.returns-clause-item_room
returns-clause-item_room g c =
    let n : c.len-2.result ≡ length c.self.inside.items.items = search rules in
    let m : c.len-2.result + c.args.items ≤ c.max-self-inside-2.result = search rules in
    rw (c.in_ok-reserve.ensures.items, c.in_ok-reserve-2.ensures.items)
    (omega (arith, n, m, pieces-whole c.self.inside.starts.items c.self.inside.items.items c.self.invariant.ascend c.self.invariant.begins))

pub overflow_sub-len : goal.overflow_sub-len
overflow_sub-len g c =
    let n : c.len.result ≡ length c.self.inside.starts.items = search rules in
    omega (arith, n, ascend-some c.self.inside.starts.items (length c.self.inside.items.items) c.self.invariant.ascend)
