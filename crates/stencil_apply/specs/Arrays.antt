-- The flat arrays of a table, as its rows.
use Rattle.std.specs.Prelude.{ℕ, ◌≡◌, ◌≤◌, List, [], ◌∷◌, length, map, slice_range}
use Rattle.std.specs.List.{zip}
use Rattle.stencil_apply.specs.Table.{Share, Row, Table, IsTable, greatest_of}
use Rattle.stencil_apply.specs.declared.arrays.Arrays.{Arrays}
use Rattle.stencil_apply.specs.declared.entry.Entry.{Entry}

-- the rows from a place of the entries on; each ends where the next begins
abbrev pub rows_from : ℕ → List ℕ → List ℕ → List Share → List Row
rows_from from [] dens shares = []
rows_from from (end ∷ ends) [] shares = []
rows_from from (end ∷ ends) (den ∷ dens) shares =
    record { den = den; shares = slice_range shares from end } ∷ rows_from end ends dens shares

-- the ends ascend from a place to the last
abbrev pub Ascend : ℕ → List ℕ → ℕ → Type 0
Ascend from [] last = from ≡ last
Ascend from (end ∷ ends) last = (from ≤ end) × Ascend end ends last

abbrev pub shares_in : Arrays → List Share
shares_in arrays = zip arrays.indices.items arrays.numerators.items

abbrev pub table_of : Arrays → Table
table_of arrays = record { controls = arrays.controls; rows = rows_from 0 arrays.ends.items arrays.denominators.items (shares_in arrays) }

-- the arrays belong together, and are those of a table
pub record AreTied (arrays : Arrays) : Type 0 where
  pub table : IsTable (table_of arrays)
  pub ascend : Ascend 0 arrays.ends.items (length arrays.indices.items)
  pub numerators : length arrays.numerators.items ≡ length arrays.indices.items
  pub denominators : length arrays.denominators.items ≡ length arrays.ends.items
  pub greatest : arrays.greatest ≡ greatest_of (table_of arrays)

-- the entries of a row, as shares
abbrev pub shares_of : List Entry → List Share
shares_of entries = map (λ entry. (entry.index, entry.numerator)) entries

abbrev pub row_of : ℕ → List Entry → Row
row_of den entries = record { den = den; shares = shares_of entries }

-- the row of control points and their numerators
abbrev pub row_of_parts : ℕ → List ℕ → List ℕ → Row
row_of_parts den indices numerators = record { den = den; shares = zip indices numerators }
