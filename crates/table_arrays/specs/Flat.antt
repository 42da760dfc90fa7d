-- A stencil table as flat lists.
use Rattle.std.specs.Prelude.{ℕ, ◌+◌, ℤ, pos, List, [], ◌∷◌, length, map}
use Rattle.std.specs.List.{flat_map}
use Rattle.subdiv_model.specs.Table.{Row}

-- the start of each row, after this many entries before, then the end of the last row
abbrev pub starts_from : ℕ → List Row → List ℕ
starts_from at [] = at ∷ []
starts_from at (row ∷ rows) = at ∷ starts_from (at + length row.shares) rows

abbrev pub row_starts : List Row → List ℕ
row_starts rows = starts_from 0 rows

-- the control points of all entries
abbrev pub indices_of : List Row → List ℕ
indices_of rows = flat_map (λ row. map (λ share. share.0) row.shares) rows

-- the numerators of all entries
abbrev pub numerators_of : List Row → List ℕ
numerators_of rows = flat_map (λ row. map (λ share. share.1) row.shares) rows

-- the denominators of the rows
abbrev pub denominators_of : List Row → List ℕ
denominators_of rows = map (λ row. row.den) rows

-- the weights of a row's entries: a numerator over a denominator each
abbrev pub row_fractions : Row → List (ℤ × ℕ)
row_fractions row = map (λ share. (pos share.1, row.den)) row.shares

-- the weights of all entries
abbrev pub fractions_of : List Row → List (ℤ × ℕ)
fractions_of rows = flat_map row_fractions rows
