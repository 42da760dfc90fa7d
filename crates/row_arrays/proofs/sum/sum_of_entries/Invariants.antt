use Rattle.std.proofs.Common.{◌≡◌, ◌-◌, map, Some}
use Rattle.std.specs.List.{fold, range_with_len}
use Rattle.row_arrays.specs.Sums.{plus, sum_of}
use Rattle.row_arrays.specs.Rows.{product_at}
use Rattle.row_arrays.proofs.sum.sum_of_entries.Given as goal

-- this sum with the products of the entries from this one on is the sum of all
abbrev pub invariant-loop-entry : goal.invariant-loop-entry
invariant-loop-entry l =
    fold plus (Some l.sum) (map (product_at l.rows l.controls l.component) (range_with_len l.entry (l.end - l.entry)))
    ≡ sum_of (map (product_at l.rows l.controls l.component) (range_with_len l.start (l.end - l.start)))
