use Rattle.std.proofs.Common.{◌≡◌, length, rules, ap, ◌∙◌}
use Rattle.stencil_apply.specs.Table.{Table, entries_of}
use Rattle.stencil_apply.proofs.TableLemmas.{entries_are}
use Rattle.stencil_apply.proofs.table.StencilTable.entries.Goals as goal

pub returns : goal.returns
returns c =
    let n : c.len.result ≡ length c.self.inside.arrays.indices.items = search rules in
    n ∙ entries_are c.self.inside.arrays c.self.invariant ∙ ap (λ (t : Table). entries_of t.rows) c.self.view_is
