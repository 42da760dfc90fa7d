-- Ranges of rows.
use Rattle.std.proofs.Common.{◌≡◌, ℕ, ◌+◌, ◌-◌, ◌<◌, ◌≤◌, ◌⊎◌, inl, inr, ℤ, List, [], length, take, drop, get_or, slice_set, arith, ap, sym, ◌∙◌, subst}
use Rattle.std.proofs.lemmas.Bool.{cases_lt}
use Rattle.std.proofs.lemmas.List.{take_all, take-take, drop-take, length-drop, get_or-drop, get_or_default, get_or-set_same, get_or-set_other}
use Rattle.std.proofs.lemmas.List.Sums.{sum_by-take-drop, sum_by_more}
use Rattle.stencil_apply.specs.Table.{Row, Table, row_at, entries_of, rows_in}

abbrev blank : Row
blank = record { den = 1; shares = [] }

-- a beginning is a shorter one, and the range from there
beginning : (rows : List Row) (a n : ℕ) → entries_of (take a rows) + entries_of (take n (drop a rows)) ≡ entries_of (take (a + n) rows)
beginning rows a n =
    omega (arith, sum_by-take-drop (λ (row : Row). length row.shares) (take (a + n) rows) a, ap entries_of (drop-take a n rows), ap entries_of (take-take a (a + n) rows (omega arith)))

up-to : (table : Table) (a b : ℕ) → a ≤ b → entries_of (take a table.rows) + entries_of (rows_in table a b) ≡ entries_of (take b table.rows)
up-to table a b h =
    let n : a + (b - a) ≡ b = omega arith in omega (arith, beginning table.rows a (b - a), ap (λ m. entries_of (take m table.rows)) n)

-- two ranges that meet have the entries of both together
pub ranges-meet : (table : Table) (from middle to : ℕ) → from ≤ middle → middle ≤ to → entries_of (rows_in table from middle) + entries_of (rows_in table middle to) ≡ entries_of (rows_in table from to)
ranges-meet table from middle to h k =
    omega (arith, up-to table from middle h, up-to table middle to k, up-to table from to (omega arith))

-- all rows have those of the table
pub range-whole : (table : Table) → entries_of (rows_in table 0 (length table.rows)) ≡ entries_of table.rows
range-whole table = ap entries_of (take_all (length table.rows - 0) table.rows (omega arith))

-- the entries of one row more of a range
pub row-more : (table : Table) (from i : ℕ) → from + i < length table.rows
    → entries_of (take (i + 1) (drop from table.rows)) ≡ entries_of (take i (drop from table.rows)) + length (row_at table (from + i)).shares
row-more table from i inside =
    sum_by_more (λ (row : Row). length row.shares) (drop from table.rows) i blank (omega (arith, inside, length-drop from table.rows))
    ∙ ap (λ (row : Row). entries_of (take i (drop from table.rows)) + length row.shares) (get_or-drop from table.rows i blank)

module _ {P : Type 0} (numbers : P → List ℤ) (sums : ℕ → P → List ℤ) (start out : List P) (i : ℕ) (value : P) (inside : i < length out)
    (rest : (k : ℕ) (d : P) → i ≤ k → get_or out k d ≡ get_or start k d) where
  -- a place more has its sum
  pub done-next : ((k : ℕ) (d : P) → k < i → numbers (get_or out k d) ≡ sums k (get_or start k d)) → (place : P) → numbers value ≡ sums i (get_or out i place)
      → (k : ℕ) (d : P) → k < i + 1 → numbers (get_or (slice_set out i value) k d) ≡ sums k (get_or start k d)
  done-next done place is k d below = at (cases_lt k i)
    where
      at : (k < i) ⊎ (i ≤ k) → numbers (get_or (slice_set out i value) k d) ≡ sums k (get_or start k d)
      at (inl less) = ap numbers (get_or-set_other out i k value d (λ e. omega (arith, less, e))) ∙ done k d less
      at (inr more) =
          let same : k ≡ i = omega (arith, below, more) in
          subst (λ n. numbers (get_or (slice_set out i value) n d) ≡ sums n (get_or start n d)) (sym same)
          (ap numbers (get_or-set_same out i value d inside) ∙ is ∙ ap (sums i) (get_or_default out i place d inside ∙ rest i d (omega arith)))

  -- the other places are unchanged
  pub rest-next : (k : ℕ) (d : P) → i + 1 ≤ k → get_or (slice_set out i value) k d ≡ get_or start k d
  rest-next k d above = get_or-set_other out i k value d (λ e. omega (arith, above, e)) ∙ rest k d (omega (arith, above))
