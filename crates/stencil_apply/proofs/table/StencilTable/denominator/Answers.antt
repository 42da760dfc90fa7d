use Rattle.std.proofs.Common.{◌≡◌, ◌<◌, arith, length, rules, ap, vec_len}
use Rattle.stencil_apply.specs.Table.{Table}
use Rattle.stencil_apply.specs.Arrays.{table_of}
use Rattle.stencil_apply.proofs.TableLemmas.{rows_are, den_at}
use Rattle.stencil_apply.proofs.table.StencilTable.denominator.Goals as goal

pub index-requires : goal.index-requires
index-requires c =
    let n : vec_len c.self.inside.arrays.denominators ≡ length c.self.inside.arrays.denominators.items = search rules in
    omega (arith, n, c.requires, ap (λ (t : Table). length t.rows) c.self.view_is, rows_are c.self.inside.arrays c.self.invariant, c.self.invariant.denominators)

pub returns : goal.returns
returns c =
    let inside : c.args.row < length (table_of c.self.inside.arrays).rows = omega (arith, c.requires, ap (λ (t : Table). length t.rows) c.self.view_is) in
    let d = den_at c.self.inside.arrays c.self.invariant c.args.row c.index.result.now inside in
    rw (← c.self.view_is) (search (rules, d))
