-- The steps of a table that is evaluated in two ranges.
use Rattle.std.proofs.Common.{◌≡◌, ℕ, ◌+◌, length, arith, ap}
use Rattle.stencil_apply.specs.Table.{Table, entries_of, rows_in}

-- two adjacent ranges take the steps of all rows
pub in-two : (table : Table) (split rows old first last : ℕ) → rows ≡ length table.rows → first ≡ old + entries_of (rows_in table split rows)
    → last ≡ first + entries_of (rows_in table 0 split)
    → entries_of (rows_in table 0 split) + entries_of (rows_in table split (length table.rows)) ≡ entries_of (rows_in table 0 (length table.rows))
    → entries_of (rows_in table 0 (length table.rows)) ≡ entries_of table.rows → last ≡ old + entries_of table.rows
in-two table split rows old first last many one two together whole =
    omega (arith, ap (λ n. entries_of (rows_in table split n)) many, one, two, together, whole)
