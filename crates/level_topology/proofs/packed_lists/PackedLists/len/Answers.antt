use Rattle.std.proofs.Common.{◌≡◌, arith, length, vec_len, ap, rules}
use Rattle.level_topology.proofs.PieceLemmas.{length-pieces}
use Rattle.level_topology.specs.Packed.{Paired}
use Rattle.level_topology.proofs.packed_lists.PackedLists.len.Goals as goal

pub returns-clause-count : goal.returns-clause-count
returns-clause-count g c =
    let h = ap (λ (p : Paired g.row.T.Denot). length p.lists) c.self.view_is in
    let n : vec_len c.self.inside.starts ≡ length c.self.inside.starts.items = search rules in
    omega (arith, h, n, c.len.ensures, length-pieces c.self.inside.starts.items c.self.inside.items.items)

pub returns-clause-beside : goal.returns-clause-beside
returns-clause-beside g c =
    let h = ap (λ (p : Paired g.row.T.Denot). length p.beside) c.self.view_is in
    let n : vec_len c.self.inside.starts ≡ length c.self.inside.starts.items = search rules in
    omega (arith, h, n, c.len.ensures, length-pieces c.self.inside.starts.items c.self.inside.beside.items)
