use Rattle.std.proofs.Common.{◌≡◌, true, rules, arith}
use Rattle.row_arrays.specs.Rows.{is_within}
use Rattle.row_arrays.proofs.SumLemmas.{within-parts}
use Rattle.row_arrays.proofs.sum.sum_of_row.Goals as goal

pub sum_of_entries-requires-clause-within : goal.sum_of_entries-requires-clause-within
sum_of_entries-requires-clause-within c =
    let whole : is_within c.args.rows.now c.args.controls.now c.args.row ≡ true = search rules in
    let parts = within-parts c.args.rows.now c.args.controls.now c.args.row whole in record {
      indices = omega (arith, c.start-end.ensures, parts.indices);
      numerators = omega (arith, c.start-end.ensures, parts.numerators);
      named = λ entry low high. parts.named entry (omega (arith, low, c.start-start.ensures)) (omega (arith, high, c.start-end.ensures));
    }
