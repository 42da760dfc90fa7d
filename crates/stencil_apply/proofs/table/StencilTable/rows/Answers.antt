use Rattle.std.proofs.Common.{◌≡◌, arith, length, rules, ap, ◌∙◌}
use Rattle.stencil_apply.specs.Table.{Table}
use Rattle.stencil_apply.proofs.TableLemmas.{rows_are, rows_few}
use Rattle.stencil_apply.proofs.table.StencilTable.rows.Goals as goal

pub overflow_cast-result : goal.overflow_cast-result
overflow_cast-result c =
    let n : c.len.result ≡ length c.self.inside.arrays.ends.items = search rules in
    record { fits = omega (arith, n, rows_few c.self.inside.arrays c.self.invariant) }

pub returns : goal.returns
returns c =
    let n : c.len.result ≡ length c.self.inside.arrays.ends.items = search rules in
    n ∙ rows_are c.self.inside.arrays c.self.invariant ∙ ap (λ (t : Table). length t.rows) c.self.view_is
