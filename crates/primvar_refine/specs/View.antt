-- The values of this crate as rows.
use Rattle.std.specs.Prelude.{ℤ, List, map}
use Rattle.ratio128.specs.declared.valued.Valued.{Valued}
use Rattle.primvar_refine.specs.Rows.{Row}

-- the row of a value, by the numerators of its list
abbrev pub row_of : {P : Type 0} → (P → List ℤ) → Valued P → Row
row_of numbers v = record { numbers = numbers v.value; den = v.den }

abbrev pub rows_of : {P : Type 0} → (P → List ℤ) → List (Valued P) → List Row
rows_of numbers values = map (row_of numbers) values
