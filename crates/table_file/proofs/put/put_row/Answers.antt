use Rattle.std.proofs.Common.{arith, ap, length, refl}
use Rattle.std.proofs.lemmas.List.{length-map}
use Rattle.obj_out.proofs.PutsLemmas.{puts-after, puts-cut, puts-fine, puts-same}
use Rattle.table_file.proofs.LineLemmas.{row-by-parts}
use Rattle.stencil_apply.specs.Table.{row_at}
use Rattle.table_file.proofs.put.put_row.Goals as goal

pub returns-in_err-put_byte : goal.returns-in_err-put_byte
returns-in_err-put_byte g c =
    puts-same (row-by-parts (row_at c.args.table.now c.args.row) _ _ refl refl)
    (puts-cut _ c.from_residual.ensures.0 c.in_err-put_byte.ensures)

pub returns-in_err-put_denominator : goal.returns-in_err-put_denominator
returns-in_err-put_denominator g c =
    puts-same (row-by-parts (row_at c.args.table.now c.args.row) _ _ refl refl)
    (puts-after c.in_ok-put_byte.ensures (puts-cut _ c.from_residual-in_err-put_denominator.ensures.0 c.in_err-put_denominator.ensures))

pub returns-in_err-put_shares : goal.returns-in_err-put_shares
returns-in_err-put_shares g c =
    puts-same (row-by-parts (row_at c.args.table.now c.args.row) _ _ c.row_indices.ensures.indices c.row_numerators.ensures)
    (puts-after c.in_ok-put_byte.ensures (puts-after c.in_ok-put_denominator.ensures
    (puts-cut _ c.from_residual-in_err-put_shares.ensures.0 c.in_err-put_shares.ensures)))

pub returns : goal.returns
returns g c =
    puts-same (row-by-parts (row_at c.args.table.now c.args.row) _ _ c.row_indices.ensures.indices c.row_numerators.ensures)
    (puts-after c.in_ok-put_byte.ensures (puts-after c.in_ok-put_denominator.ensures
    (puts-after c.in_ok-put_shares.ensures c.put_byte-2.ensures)))

pub put_shares-requires-clause-fine : goal.put_shares-requires-clause-fine
put_shares-requires-clause-fine g c = puts-fine c.in_ok-put_denominator.ensures

pub put_shares-requires-clause-equal : goal.put_shares-requires-clause-equal
put_shares-requires-clause-equal g c =
    omega (arith, simp length-map at (ap length c.row_numerators.ensures), simp length-map at (ap length c.row_indices.ensures.indices))
