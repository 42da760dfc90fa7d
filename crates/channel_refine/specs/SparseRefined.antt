-- The sparse levels of a channel up to a depth, with the values of the written points.
-- Source: this profile.
use Rattle.std.specs.Prelude.{ℕ, ◌≡◌, ◌+◌, ◌*◌, ◌<◌, ◌≤◌, pos, Bool, List, [], length, get_or, max}
use Rattle.std.specs.List.{All, sum_by, range_with_len}
use Rattle.subdiv_model.specs.Value.{whole_value}
use Rattle.subdiv_model.specs.Level.{Level}
use Rattle.subdiv_model.specs.Refined.{refined_values, control_values}
use Rattle.subdiv_model.specs.Feature.{FaceFacts}
use Rattle.subdiv_model.specs.Channel.{Channel, Tables, number_bound, denominators_after}
use Rattle.subdiv_model.specs.Sparse.{FacePredicate, predicate_to}
use Rattle.subdiv_model.specs.SparseFaults.{present_entries, present_faces}
use Rattle.subdiv_model.specs.SparseText.{WrittenLevel, written_level, written_points}
use Rattle.sparse_walk.specs.Faults.{HasNoFaultTo, IsLevelFault}
use Rattle.sparse_values.specs.Uniform.{items_at}
use Rattle.primvar_refine.specs.Rows.{Row, row_at, dens_of, StandFor, AreWithin}
use Rattle.channel_refine.specs.Refined.{column_of}
use Rattle.level_walk.specs.declared.fault.WalkFault.{WalkFault}

-- the written part of a level, and the values of its written points as rows
pub record SparseRows : Type 0 where
  pub written : WrittenLevel
  pub rows : List Row

-- the faces to refine, by a test and a depth
abbrev pub predicate_of : (FaceFacts → Bool) → Channel → ℕ → FacePredicate
predicate_of test channel depth = predicate_to test channel.base depth

-- The level contains the faces that the definitions write. Each column of its rows contains the values of the whole level at the written
-- points, over the common denominators there.
pub record IsSparseLevel (channel : Channel) (predicate : FacePredicate) (controls : List Row) (k : ℕ) (level : SparseRows) : Type 0 where
  pub written : level.written ≡ written_level channel.base predicate k
  pub dens : dens_of level.rows ≡ items_at (written_points channel.base predicate k) 1 (denominators_after channel k)
  pub values : (column : ℕ) → StandFor level.rows column
      (items_at (written_points channel.base predicate k) (whole_value (pos 0)) (refined_values channel.base channel.scheme (control_values (column_of column controls)) k))
  pub within : AreWithin channel.greatest level.rows
  pub short : All (λ row. row.den * max channel.greatest channel.common ≤ number_bound) level.rows
  pub positive : All (λ row. 0 < row.den) level.rows
  pub alike : All (λ row. length row.numbers ≡ length (row_at controls 0).numbers) level.rows

-- no level up to the depth has a fault, and the list has each level from 0 on
pub record AreSparseLevels (channel : Channel) (predicate : FacePredicate) (controls : List Row) (depth : ℕ) (levels : List SparseRows) : Type 0 where
  pub fine : HasNoFaultTo Tables channel predicate depth
  pub count : length levels ≡ depth + 1
  pub each : (k : ℕ) → k ≤ depth → IsSparseLevel channel predicate controls k (get_or levels k (record { written = record { point_count = 0; faces = [] }; rows = [] }))

-- the fault is the first of the sparse levels up to a depth
abbrev pub IsSparseFault : Channel → FacePredicate → ℕ → WalkFault → Type 0
IsSparseFault channel predicate depth fault = IsLevelFault Tables channel predicate depth fault.level fault.cause

-- the sparse levels for the predicate of a test
abbrev pub AreSparseTo : (FaceFacts → Bool) → Channel → List Row → ℕ → List SparseRows → Type 0
AreSparseTo test channel controls depth levels = AreSparseLevels channel (predicate_of test channel depth) controls depth levels

-- the fault is the first of the sparse levels for the predicate of a test
abbrev pub IsSparseFaultTo : (FaceFacts → Bool) → Channel → ℕ → WalkFault → Type 0
IsSparseFaultTo test channel depth fault = IsSparseFault channel (predicate_of test channel depth) depth fault

-- the number of present faces of the levels from 1 to a depth
abbrev pub present_to : Level → FacePredicate → ℕ → ℕ
present_to base predicate depth = sum_by (present_faces base predicate) (range_with_len 1 depth)

-- the number of entries of the tables of the present points, from level 0 to a depth
abbrev pub entries_to : Channel → FacePredicate → ℕ → ℕ
entries_to channel predicate depth = sum_by (present_entries channel predicate) (range_with_len 0 (depth + 1))

-- the call takes at most one step for each present face after level 0 and one for each entry of the tables of present points
pub record AreSparseSteps (test : FaceFacts → Bool) (channel : Channel) (depth old new : ℕ) : Type 0 where
  pub most : new ≤ old + present_to channel.base (predicate_of test channel depth) depth + entries_to channel (predicate_of test channel depth) depth
  pub later : old ≤ new
