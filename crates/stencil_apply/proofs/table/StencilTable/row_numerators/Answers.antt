use Rattle.std.proofs.Common.{◌<◌, arith, length, ap}
use Rattle.stencil_apply.specs.Table.{Table}
use Rattle.stencil_apply.specs.Arrays.{table_of}
use Rattle.stencil_apply.proofs.TableLemmas.{rows_are, numerators_at}
use Rattle.stencil_apply.proofs.table.StencilTable.row_numerators.Goals as goal

pub number_part-requires-clause-inside : goal.number_part-requires-clause-inside
number_part-requires-clause-inside c =
    rw c.deref.ensures.value (omega (arith, c.requires, ap (λ (t : Table). length t.rows) c.self.view_is, rows_are c.self.inside.arrays c.self.invariant))

pub returns : goal.returns
returns c =
    let inside : c.args.row < length (table_of c.self.inside.arrays).rows = omega (arith, c.requires, ap (λ (t : Table). length t.rows) c.self.view_is) in
    rw (← c.self.view_is, c.number_part.ensures, c.deref.ensures.value) (numerators_at c.self.inside.arrays c.self.invariant c.args.row inside)
