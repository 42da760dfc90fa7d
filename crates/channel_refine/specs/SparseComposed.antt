-- The sparse levels of a channel with their tables, and the values of the tables at the written points.
use Rattle.std.specs.Prelude.{ℕ, zero, suc, ◌≡◌, ◌+◌, ◌*◌, ◌<◌, ◌≤◌, Bool, true, nat_lt, ℤ, pos, List, [], ◌∷◌, length, map, get_or, max}
use Rattle.std.specs.List.{list_all, range_with_len}
use Rattle.subdiv_model.specs.Value.{whole_value}
use Rattle.subdiv_model.specs.Refined.{refined_values, control_values}
use Rattle.subdiv_model.specs.Feature.{FaceFacts}
use Rattle.subdiv_model.specs.Fault.{Track}
use Rattle.subdiv_model.specs.Channel.{Channel, Tables, number_bound, denominators_after}
use Rattle.subdiv_model.specs.Sparse.{FacePredicate}
use Rattle.subdiv_model.specs.SparseFaults.{present_entries, sparse_faults}
use Rattle.subdiv_model.specs.SparseText.{WrittenLevel, written_level, written_points}
use Rattle.sparse_laws.specs.Written.{used_points}
use Rattle.sparse_values.specs.Uniform.{items_at}
use Rattle.sparse_walk.specs.declared.kept.KeptLevel.{KeptLevel}
use Rattle.stencil_apply.specs.Table.{Table, IsTable, row_at, entries_of, greatest_of}
use Rattle.stencil_factory.specs.Rows.{dens_of, row_values, AreSameValues}
use Rattle.channel_refine.specs.Evaluated.{CanEvaluate, evaluated}
use Rattle.channel_refine.specs.SparseRefined.{SparseRows, predicate_of, present_to}

-- the rows of some points as a table
abbrev pub rows_at : Table → List ℕ → Table
rows_at table order = record { controls = table.controls; rows = map (row_at table) order }

-- The written points of a level in their order, as rows of its table. Level 0 writes the corners of its faces, and a later level writes
-- all points.
abbrev pub order_at : List ℕ → ℕ → Table → List ℕ
order_at first zero table = first
order_at first (suc k) table = range_with_len 0 (length table.rows)

-- the table has a row for each of these points
abbrev pub HasRows : Table → List ℕ → Type 0
HasRows table order = list_all (λ row. nat_lt row (length table.rows)) order ≡ true

-- The level contains the faces that the definitions write. Its table has a row for each written point, over the point's common
-- denominator in the whole level. The row gives the point's value there for any controls. The greatest denominator is within the bound
-- of the channel's numbers.
pub record IsComposedLevel (channel : Channel) (predicate : FacePredicate) (k : ℕ) (order : List ℕ) (faces : WrittenLevel) (table : Table) : Type 0 where
  pub written : faces ≡ written_level channel.base predicate k
  pub made : IsTable table
  pub has_rows : HasRows table order
  pub controls : table.controls ≡ channel.base.point_count
  pub dens : dens_of (rows_at table order) ≡ items_at (written_points channel.base predicate k) 1 (denominators_after channel k)
  pub values : (numbers : List ℤ) → length numbers ≡ channel.base.point_count
      → AreSameValues (items_at (written_points channel.base predicate k) (whole_value (pos 0)) (refined_values channel.base channel.scheme (control_values numbers) k))
      (row_values (rows_at table order) numbers)
  pub entries : entries_of (rows_at table order).rows ≤ present_entries channel predicate k
  pub fits : greatest_of table * max channel.greatest channel.common ≤ number_bound

-- the order of a kept level, given that of the first
abbrev pub kept_order : List ℕ → ℕ → KeptLevel Table → List ℕ
kept_order first k level = order_at first k level.carried

-- no level up to the depth has a fault, and the list has each level from 0 on
pub record AreComposedTo (test : FaceFacts → Bool) (channel : Channel) (depth : ℕ) (levels : List (KeptLevel Table)) : Type 0 where
  pub fine : (track : Track) → sparse_faults Tables channel (predicate_of test channel depth) track depth ≡ []
  pub count : length levels ≡ depth + 1
  pub each : (k : ℕ) (d : KeptLevel Table) → k ≤ depth
      → IsComposedLevel channel (predicate_of test channel depth) k (kept_order (used_points channel.base) k (get_or levels k d)) (get_or levels k d).faces (get_or levels k d).carried

-- the call takes at most one step for each face of the levels after the first
pub record AreComposeSteps (test : FaceFacts → Bool) (channel : Channel) (depth old new : ℕ) : Type 0 where
  pub most : new ≤ old + present_to channel.base (predicate_of test channel depth) depth
  pub later : old ≤ new

-- a level whose table can be evaluated at the written points
pub record CanValue (controls : List (List ℤ)) (order : List ℕ) (level : KeptLevel Table) : Type 0 where
  pub can : CanEvaluate level.carried controls
  pub has_rows : HasRows level.carried order

-- each level can be evaluated at its written points, given the order of the first
abbrev pub CanValueAll : List (List ℤ) → List ℕ → List (KeptLevel Table) → Type 0
CanValueAll controls first levels = (k : ℕ) (d : KeptLevel Table) → k < length levels → CanValue controls (kept_order first k (get_or levels k d)) (get_or levels k d)

-- the faces of a level and the values of its written points
abbrev pub valued : List (List ℤ) → List ℕ → KeptLevel Table → SparseRows
valued controls order level = record { written = level.faces; rows = evaluated (rows_at level.carried order) controls }

-- the number of entries of the rows of the written points
abbrev pub valued_entries : List ℕ → KeptLevel Table → ℕ
valued_entries order level = entries_of (rows_at level.carried order).rows

-- the values of level k, given the order of the first
abbrev pub valued_level : List (List ℤ) → List ℕ → ℕ → KeptLevel Table → SparseRows
valued_level controls first k level = valued controls (kept_order first k level) level

-- the values of all levels, given the order of the first
abbrev pub valued_from : List (List ℤ) → List ℕ → ℕ → List (KeptLevel Table) → List SparseRows
valued_from controls first k [] = []
valued_from controls first k (level ∷ levels) = valued_level controls first k level ∷ valued_from controls first (suc k) levels

-- the number of entries of the rows of all levels' written points, given the order of the first
abbrev pub entries_in : List ℕ → ℕ → List (KeptLevel Table) → ℕ
entries_in first k [] = 0
entries_in first k (level ∷ levels) = valued_entries (kept_order first k level) level + entries_in first (suc k) levels
