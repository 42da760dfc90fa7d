-- What `compose_level` returns: the table of a refinement step, one row for each point of the child, or the first fault.
-- Source: stencil tables of OpenSubdiv's Far layer, with exact weights.
use Rattle.std.specs.Prelude.{ℕ, ◌≡◌, ◌<◌, ◌≤◌, ℤ, List, [], ◌∷◌, length, map, Result, MatchResult}
use Rattle.std.specs.List.{All, sum_by, range_with_len}
use Rattle.subdiv_model.specs.Level.{Level}
use Rattle.subdiv_model.specs.Value.{Value}
use Rattle.subdiv_model.specs.Mask.{Scheme}
use Rattle.subdiv_model.specs.Support.{mask_support, source_support}
use Rattle.subdiv_model.specs.Channel.{number_bound, entry_bound}
use Rattle.level_topology.specs.Child.{PointOrigin}
use Rattle.child_masks.specs.Masks.{masks_from, values_from, HasNoTransition, IsFirstTransition, IsFirstDenominator, dens_from}
use Rattle.child_masks.specs.Survey.{IsSurveyFault}
use Rattle.child_masks.specs.declared.fault.SurveyFault.{SurveyFault}
use Rattle.stencil_apply.specs.Table.{Table}
use Rattle.stencil_factory.specs.Rows.{supports_of, dens_of, row_values, AreSameValues}
use Rattle.stencil_factory.specs.MaskRows.{IsRowFault}
use Rattle.stencil_factory.specs.declared.row_fault.RowFault.{RowFault}
use Rattle.stencil_factory.specs.declared.fault.TableFault.{TableFault}
use Rattle.stencil_factory.specs.declared.fault.TableFault.TheVariants.{Transition, Denominator, TooManyEntries, Memory}

-- The table of the control points: each row is its own control point, 1 over 1.
abbrev pub identity_table : ℕ → Table
identity_table points = record {
  controls = points;
  rows = map (λ v. record { den = 1; shares = (v, 1) ∷ [] }) (range_with_len 0 points);
}

-- The control points that each child point depends on, from those that each point of the level depends on.
abbrev pub supports_from : ℕ → Level → Scheme → List (List ℕ) → List PointOrigin → List (List ℕ)
supports_from controls level scheme supports origins =
    map (mask_support controls (source_support controls level supports)) (masks_from level scheme origins)

-- The number of entries of all rows of the child.
abbrev pub entries_from : Level → Scheme → List PointOrigin → Table → ℕ
entries_from level scheme origins table =
    sum_by length (supports_from table.controls level scheme (supports_of table) origins)

-- `composed` is the table of the child. Each row has its point's common denominator and the control points that the point depends
-- on. For all control numbers a row gives the value that the point's mask gives from the values of the rows of `table`. No vertex has
-- a transition weight whose denominator is too great.
pub record IsComposed (level : Level) (scheme : Scheme) (origins : List PointOrigin) (table composed : Table) : Type 0 where
  pub controls : composed.controls ≡ table.controls
  pub dens : dens_of composed ≡ dens_from level scheme (dens_of table) origins
  pub supports : supports_of composed ≡ supports_from table.controls level scheme (supports_of table) origins
  pub values : (numbers : List ℤ) (values : List Value) → AreSameValues values (row_values table numbers)
      → AreSameValues (values_from level scheme origins values) (row_values composed numbers)
  pub fine : HasNoTransition level scheme origins

-- The fault of the step. A later variant holds only if the whole level has no earlier fault. `Memory` claims nothing.
abbrev pub IsTableFault : Level → Scheme → List PointOrigin → Table → TableFault → Type 0
IsTableFault level scheme origins table (Transition point) = IsFirstTransition level scheme origins point
IsTableFault level scheme origins table (Denominator point) =
    HasNoTransition level scheme origins × IsFirstDenominator (dens_from level scheme (dens_of table) origins) point
IsTableFault level scheme origins table TooManyEntries =
    HasNoTransition level scheme origins × All (λ den. den ≤ number_bound) (dens_from level scheme (dens_of table) origins)
    × (entry_bound < entries_from level scheme origins table)
IsTableFault level scheme origins table Memory = Unit {0}

-- The result is the table of the child, or the first fault of the step.
abbrev pub IsTableComposition : Level → Scheme → List PointOrigin → Table → Result Table TableFault → Type 0
IsTableComposition level scheme origins table result =
    MatchResult result (λ composed. IsComposed level scheme origins table composed) (λ fault. IsTableFault level scheme origins table fault)

-- Where the survey of a step has its fault, the step has the given one.
abbrev pub IsFaultOfSurvey : SurveyFault → TableFault → Type 0
IsFaultOfSurvey survey fault = (level : Level) (scheme : Scheme) (origins : List PointOrigin) (table : Table)
    → IsSurveyFault level scheme origins (dens_of table) survey → IsTableFault level scheme origins table fault

-- Where no weight of a step is refused and its rows have their fault, the step has the given one.
abbrev pub IsFaultOfRows : RowFault → TableFault → Type 0
IsFaultOfRows rows fault = (level : Level) (scheme : Scheme) (origins : List PointOrigin) (table : Table) → HasNoTransition level scheme origins
    → IsRowFault level (masks_from level scheme origins) table rows → IsTableFault level scheme origins table fault
