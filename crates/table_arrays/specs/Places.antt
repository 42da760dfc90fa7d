-- A table in a caller's arrays: the lengths of the arrays, and what they contain.
use Rattle.std.specs.Prelude.{ℕ, ◌≡◌, ◌+◌, ◌&&◌, Bool, List, nat_le, length, map, take, drop}
use Rattle.subdiv_model.specs.Table.{Table, entries_of}
use Rattle.nearest_float.specs.NearestArrays.{AreNearest}
use Rattle.flat_arrays.specs.Words.{natural_of}
use Rattle.table_arrays.specs.Flat.{row_starts, indices_of, numerators_of, denominators_of, fractions_of}
use Rattle.table_arrays.specs.declared.places.TableCounts.{TableCounts}
use Rattle.table_arrays.specs.declared.places.ExactPlaces.{ExactPlaces}
use Rattle.table_arrays.specs.declared.places.DoublePlaces.{DoublePlaces}
use Rattle.table_arrays.specs.declared.places.FloatPlaces.{FloatPlaces}
use Rattle.nearest_float.specs.Binary.{binary32, binary64}

-- the number of control points, rows and entries of a table
abbrev pub counts_of : Table → TableCounts
counts_of table = record { controls = table.controls; rows = length table.rows; entries = entries_of table.rows }

-- the arrays are long enough: one place more than there are rows, and one for each entry
abbrev pub are_rows_long_enough : TableCounts → List ℕ → List ℕ → Bool
are_rows_long_enough counts starts indices = nat_le (counts.rows + 1) (length starts) && nat_le counts.entries (length indices)

abbrev pub are_exact_long_enough : TableCounts → ExactPlaces → Bool
are_exact_long_enough counts places =
    are_rows_long_enough counts places.starts.now places.indices.now
    && (nat_le counts.entries (length places.numerators.now) && nat_le counts.rows (length places.denominators.now))

abbrev pub are_doubles_long_enough : TableCounts → DoublePlaces → Bool
are_doubles_long_enough counts places =
    are_rows_long_enough counts places.starts.now places.indices.now && nat_le counts.entries (length places.weights.now)

abbrev pub are_floats_long_enough : TableCounts → FloatPlaces → Bool
are_floats_long_enough counts places =
    are_rows_long_enough counts places.starts.now places.indices.now && nat_le counts.entries (length places.weights.now)

-- the start of each row, and the control points of all entries
pub record AreRowsWritten (table : Table) (starts indices : List ℕ) : Type 0 where
  pub begin : take (length table.rows + 1) starts ≡ row_starts table.rows
  pub control : take (entries_of table.rows) indices ≡ indices_of table.rows

-- the rows with their exact numerators and denominators
pub record IsExactWritten (table : Table) (places : ExactPlaces) : Type 0 where
  pub rows : AreRowsWritten table places.starts.now places.indices.now
  pub numerators : map natural_of (take (entries_of table.rows) places.numerators.now) ≡ numerators_of table.rows
  pub denominators : map natural_of (take (length table.rows) places.denominators.now) ≡ denominators_of table.rows

-- the rows with the binary64 numbers nearest to their weights
pub record AreDoublesWritten (table : Table) (places : DoublePlaces) : Type 0 where
  pub rows : AreRowsWritten table places.starts.now places.indices.now
  pub weights : AreNearest binary64 (fractions_of table.rows) (take (entries_of table.rows) places.weights.now)

-- the rows with the binary32 numbers nearest to their weights
pub record AreFloatsWritten (table : Table) (places : FloatPlaces) : Type 0 where
  pub rows : AreRowsWritten table places.starts.now places.indices.now
  pub weights : AreNearest binary32 (fractions_of table.rows) (take (entries_of table.rows) places.weights.now)

-- behind the starts and the entries of these rows the arrays keep their contents
pub record AreRowRestsKept (counts : TableCounts) (old_starts starts old_indices indices : List ℕ) : Type 0 where
  pub starts_rest : drop (counts.rows + 1) starts ≡ drop (counts.rows + 1) old_starts
  pub indices_rest : drop counts.entries indices ≡ drop counts.entries old_indices

-- behind the places of these rows and entries the arrays keep their contents
pub record IsExactRestKept (counts : TableCounts) (old new : ExactPlaces) : Type 0 where
  pub rows : AreRowRestsKept counts old.starts.now new.starts.now old.indices.now new.indices.now
  pub numerators : drop counts.entries new.numerators.now ≡ drop counts.entries old.numerators.now
  pub denominators : drop counts.rows new.denominators.now ≡ drop counts.rows old.denominators.now

pub record IsDoubleRestKept (counts : TableCounts) (old new : DoublePlaces) : Type 0 where
  pub rows : AreRowRestsKept counts old.starts.now new.starts.now old.indices.now new.indices.now
  pub weights : drop counts.entries new.weights.now ≡ drop counts.entries old.weights.now

pub record IsFloatRestKept (counts : TableCounts) (old new : FloatPlaces) : Type 0 where
  pub rows : AreRowRestsKept counts old.starts.now new.starts.now old.indices.now new.indices.now
  pub weights : drop counts.entries new.weights.now ≡ drop counts.entries old.weights.now
