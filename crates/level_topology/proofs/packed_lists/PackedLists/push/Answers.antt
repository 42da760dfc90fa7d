use Rattle.std.proofs.Common.{rules, arith, length, ◌≡◌, ◌≤◌, ◌<◌, ◌+◌, ap, vec_len}
use Rattle.std.specs.List.{sum_by}
use Rattle.level_topology.specs.Packed.{Paired, pieces}
use Rattle.level_topology.proofs.PieceLemmas.{length-pieces, pieces-whole, pieces-push, beside-push, paired-same, IsPacked-push}
use Rattle.level_topology.proofs.packed_lists.PackedLists.push.Goals as goal

pub append-requires-clause-start_room : goal.append-requires-clause-start_room
append-requires-clause-start_room g c =
    let h = ap (λ (p : Paired g.row.T.Denot). length p.lists) c.self.view_is in
    let k = ap (λ (p : Paired g.row.T.Denot). p.list_limit) c.self.view_is in
    let n : vec_len c.self.inside.starts ≡ length c.self.inside.starts.items = search rules in
    omega (arith, h, k, n, c.requires.few, c.self.invariant.list_fit, length-pieces c.self.inside.starts.items c.self.inside.items.items)

pub append-requires-clause-item_room : goal.append-requires-clause-item_room
append-requires-clause-item_room g c =
    let h = ap (λ (p : Paired g.row.T.Denot). sum_by length p.lists) c.self.view_is in
    let k = ap (λ (p : Paired g.row.T.Denot). p.item_limit) c.self.view_is in
    let n : vec_len c.self.inside.items ≡ length c.self.inside.items.items = search rules in
    omega (arith, h, k, n, c.requires.short, c.self.invariant.item_fit, pieces-whole c.self.inside.starts.items c.self.inside.items.items c.self.invariant.ascend c.self.invariant.begins)

pub append-requires-clause-beside_room : goal.append-requires-clause-beside_room
append-requires-clause-beside_room g c =
    let h = ap (λ (p : Paired g.row.T.Denot). sum_by length p.lists) c.self.view_is in
    let k = ap (λ (p : Paired g.row.T.Denot). p.item_limit) c.self.view_is in
    let n : vec_len c.self.inside.beside ≡ length c.self.inside.beside.items = search rules in
    omega (arith, h, k, n, c.requires.short, c.requires.equal, c.self.invariant.equal, c.self.invariant.beside_fit, pieces-whole c.self.inside.starts.items c.self.inside.items.items c.self.invariant.ascend c.self.invariant.begins)

pub append-requires-clause-short : goal.append-requires-clause-short
append-requires-clause-short g c =
    let h = ap (λ (p : Paired g.row.T.Denot). sum_by length p.lists) c.self.view_is in
    let k = ap (λ (p : Paired g.row.T.Denot). p.item_limit) c.self.view_is in
    let n : vec_len c.self.inside.items ≡ length c.self.inside.items.items = search rules in
    omega (arith, h, k, n, c.requires.short, c.self.invariant.short, pieces-whole c.self.inside.starts.items c.self.inside.items.items c.self.invariant.ascend c.self.invariant.begins)

pub invariant_of-self : goal.invariant_of-self
invariant_of-self g c =
    let few : length (pieces c.self.inside.starts.items c.self.inside.items.items) < c.self.inside.list_limit =
    omega (arith, c.requires.few, ap (λ (p : Paired g.row.T.Denot). length p.lists) c.self.view_is, ap (λ (p : Paired g.row.T.Denot). p.list_limit) c.self.view_is) in
    let short : sum_by length (pieces c.self.inside.starts.items c.self.inside.items.items) + length c.args.list.now ≤ c.self.inside.item_limit =
    omega (arith, c.requires.short, ap (λ (p : Paired g.row.T.Denot). sum_by length p.lists) c.self.view_is, ap (λ (p : Paired g.row.T.Denot). p.item_limit) c.self.view_is) in
    rw (c.append.ensures.starts, c.append.ensures.items, c.append.ensures.beside)
    (IsPacked-push c.self.inside.starts.items c.self.inside.items.items c.args.list.now c.self.inside.beside.items c.args.beside.now
    c.self.invariant c.requires.equal few short c.append.ensures.start_capacity c.append.ensures.item_capacity c.append.ensures.beside_capacity)

pub returns : goal.returns
returns g c =
    rw (← c.self.view_is, c.append.ensures.starts, c.append.ensures.items, c.append.ensures.beside)
    (paired-same
    (pieces-push c.self.inside.starts.items c.self.inside.items.items c.args.list.now c.self.invariant.ascend)
    (beside-push c.self.inside.starts.items c.self.inside.items.items c.args.list.now c.self.inside.beside.items c.args.beside.now c.self.invariant.ascend c.self.invariant.equal c.requires.equal))
