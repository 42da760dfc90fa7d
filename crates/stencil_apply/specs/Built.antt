-- A table under construction, and the memory that it has reserved.
use Rattle.std.specs.Prelude.{ℕ, ◌≡◌, ◌+◌, ◌≤◌, [], ◌∷◌, ◌++◌, length, map, max}
use Rattle.std.specs.Vec.{vec_capacity}
use Rattle.stencil_apply.specs.Table.{Row, Table}
use Rattle.stencil_apply.specs.Arrays.{AreTied}
use Rattle.stencil_apply.specs.declared.arrays.Arrays.{Arrays}
use Rattle.number_width.specs.declared.width.Width.{Width}
use Rattle.number_width.specs.declared.width.Width.TheVariants as width

-- a table; this many more rows, and this many more entries in all, with numerators of the width take no memory
pub record Built : Type 0 where
  pub table : Table
  pub width : Width
  pub room_rows : ℕ
  pub room_entries : ℕ

-- the greater of two widths
abbrev pub wider : Width → Width → Width
wider width.Narrow other = other
wider width.Wide other = width.Wide

abbrev pub no_rows : ℕ → Table
no_rows controls = record { controls = controls; rows = [] }

-- the table with one more row
abbrev pub with_row : Row → Table → Table
with_row row table = record { controls = table.controls; rows = table.rows ++ row ∷ [] }

-- the arrays belong together, and have memory for this many more rows and entries
pub record HaveCapacity (arrays : Arrays) (rows entries : ℕ) : Type 0 where
  pub tied : AreTied arrays
  pub end_capacity : length arrays.ends.items + rows ≤ vec_capacity arrays.ends
  pub denominator_capacity : length arrays.denominators.items + rows ≤ vec_capacity arrays.denominators
  pub index_capacity : length arrays.indices.items + entries ≤ vec_capacity arrays.indices
  pub numerator_capacity : length arrays.numerators.items + entries ≤ arrays.numerators.capacity

-- the arrays have memory for a row with this many entries
pub record HaveSpace (arrays : Arrays) (entries : ℕ) : Type 0 where
  pub ends : length arrays.ends.items + 1 ≤ vec_capacity arrays.ends
  pub denominators : length arrays.denominators.items + 1 ≤ vec_capacity arrays.denominators
  pub indices : length arrays.indices.items + entries ≤ vec_capacity arrays.indices
  pub numerators : length arrays.numerators.items + entries ≤ arrays.numerators.capacity

-- no array has less capacity than before
pub record KeepsCapacity (old new : Arrays) : Type 0 where
  pub ends : vec_capacity old.ends ≤ vec_capacity new.ends
  pub denominators : vec_capacity old.denominators ≤ vec_capacity new.denominators
  pub indices : vec_capacity old.indices ≤ vec_capacity new.indices
  pub numerators : old.numerators.capacity ≤ new.numerators.capacity

-- the arrays have the same items as before
pub record IsGrown (old new : Arrays) : Type 0 where
  pub controls : new.controls ≡ old.controls
  pub greatest : new.greatest ≡ old.greatest
  pub ends : new.ends.items ≡ old.ends.items
  pub denominators : new.denominators.items ≡ old.denominators.items
  pub indices : new.indices.items ≡ old.indices.items
  pub numerators : new.numerators.items ≡ old.numerators.items
  pub capacity : KeepsCapacity old new

-- the arrays have one more row
pub record IsPushed (old new : Arrays) (row : Row) : Type 0 where
  pub controls : new.controls ≡ old.controls
  pub greatest : new.greatest ≡ max old.greatest row.den
  pub ends : new.ends.items ≡ old.ends.items ++ (length old.indices.items + length row.shares) ∷ []
  pub denominators : new.denominators.items ≡ old.denominators.items ++ row.den ∷ []
  pub indices : new.indices.items ≡ old.indices.items ++ map (λ share. share.0) row.shares
  pub numerators : new.numerators.items ≡ old.numerators.items ++ map (λ share. share.1) row.shares
  pub width : new.numerators.width ≡ old.numerators.width
  pub capacity : KeepsCapacity old new
