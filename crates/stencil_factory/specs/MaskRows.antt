-- What `compose_masks` returns: the table of masks over the points of a level, one row for each mask, or the first fault.
use Rattle.std.specs.Prelude.{ℕ, ◌≡◌, ◌+◌, ◌<◌, ◌≤◌, ℤ, ◌⊎◌, Bool, true, false, List, [], length, map, get_or, IsTrue, Option, MatchOption, Result, MatchResult}
use Rattle.std.specs.List.{All, sum_by}
use Rattle.subdiv_model.specs.Level.{Level}
use Rattle.subdiv_model.specs.Value.{Value}
use Rattle.subdiv_model.specs.Mask.{SourcePoint, OfPoint, OfFace, Mask, total_weight}
use Rattle.subdiv_model.specs.Refined.{mask_value, source_value, mask_denominator, source_denominator}
use Rattle.subdiv_model.specs.Support.{mask_support, source_support}
use Rattle.subdiv_model.specs.Channel.{number_bound, entry_bound}
use Rattle.sharpness_laws.specs.SameWeights.{HaveSameWeights, is_joined}
use Rattle.child_masks.specs.Masks.{IsFirstDenominator}
use Rattle.stencil_apply.specs.Table.{Table}
use Rattle.stencil_factory.specs.Rows.{supports_of, dens_of, row_values, AreSameValues}
use Rattle.stencil_factory.specs.declared.row_fault.RowFault.{RowFault}
use Rattle.stencil_factory.specs.declared.row_fault.RowFault.TheVariants.{Denominator, TooManyEntries, Memory}

-- The source is a point below `points`, not a face point.
abbrev pub IsPointAmong : ℕ → SourcePoint → Type 0
IsPointAmong points (OfPoint v) = v < points
IsPointAmong points (OfFace f) = ⊥

-- The weights give each point the weight that it has in the mask, and sum to the denominator, which is above 0. They may come in any
-- order, with several weights for one point and with weights of 0. The points are below `count`.
pub record AreWeightsOf (count : ℕ) (mask weights : Mask) : Type 0 where
  pub same : HaveSameWeights weights mask
  pub joined : IsTrue (is_joined mask)
  pub points : All (λ t. IsPointAmong count t.source) weights.terms
  pub total : total_weight weights.terms ≡ weights.denominator
  pub positive : 0 < weights.denominator

-- The mask without terms, over 0.
abbrev pub no_mask : Mask
no_mask = record { terms = []; denominator = 0 }

-- The mask of row `row`, counted from 0.
abbrev pub mask_at : List Mask → ℕ → Mask
mask_at masks row = get_or masks row no_mask

-- The common denominator of each row.
abbrev pub mask_dens : Level → Table → List Mask → List ℕ
mask_dens level table masks = map (mask_denominator (source_denominator level (dens_of table))) masks

-- The control points that each row depends on.
abbrev pub mask_supports : Level → Table → List Mask → List (List ℕ)
mask_supports level table masks = map (mask_support table.controls (source_support table.controls level (supports_of table))) masks

-- `found` lists the common denominator of each row, each above 0 and at most 2^126 - 1.
pub record AreRowDenominators (level : Level) (table : Table) (masks : List Mask) (found : List ℕ) : Type 0 where
  pub each : found ≡ mask_dens level table masks
  pub positive : All (λ den. 0 < den) found
  pub short : All (λ den. den ≤ number_bound) found

-- The number of entries of all rows.
abbrev pub mask_entries : Level → Table → List Mask → ℕ
mask_entries level table masks = sum_by length (mask_supports level table masks)

-- The number of entries of all rows, at most 2^27, or nothing if they are more.
abbrev pub IsEntryCount : Level → List Mask → Table → Option ℕ → Type 0
IsEntryCount level masks table count =
    MatchOption count (entry_bound < mask_entries level table masks) (λ entries. (entries ≡ mask_entries level table masks) × (entries ≤ entry_bound))

-- The entries of the first rows and the spare capacity sum to at most 2^27, or the entries of all rows do.
abbrev pub AreFew : ℕ → ℕ → ℕ → Type 0
AreFew all entries spare = (entries + spare ≤ entry_bound) ⊎ (all ≤ entry_bound)

-- `composed` is the table of the masks. Each row has its mask's common denominator and the control points that the mask depends on.
-- For all control numbers a row gives the value that the mask gives from the values of the rows of `table`.
pub record AreMaskRows (level : Level) (masks : List Mask) (table composed : Table) : Type 0 where
  pub controls : composed.controls ≡ table.controls
  pub dens : dens_of composed ≡ mask_dens level table masks
  pub supports : supports_of composed ≡ mask_supports level table masks
  pub values : (numbers : List ℤ) (values : List Value) → AreSameValues values (row_values table numbers)
      → AreSameValues (map (mask_value (source_value level values)) masks) (row_values composed numbers)

-- If `added` is true, `composed` is the table of the masks. Otherwise the rows have more than 2^27 entries together.
pub record AreAdded (level : Level) (masks : List Mask) (table composed : Table) (added : Bool) : Type 0 where
  pub rows : added ≡ true → AreMaskRows level masks table composed
  pub many : added ≡ false → entry_bound < mask_entries level table masks

-- The fault of the masks. `TooManyEntries` holds only if all denominators are within their bound. `Memory` claims nothing.
abbrev pub IsRowFault : Level → List Mask → Table → RowFault → Type 0
IsRowFault level masks table (Denominator row) = IsFirstDenominator (mask_dens level table masks) row
IsRowFault level masks table TooManyEntries =
    All (λ den. den ≤ number_bound) (mask_dens level table masks) × (entry_bound < mask_entries level table masks)
IsRowFault level masks table Memory = Unit {0}

-- The result is the table of the masks, or the first fault.
abbrev pub IsRowComposition : Level → List Mask → Table → Result Table RowFault → Type 0
IsRowComposition level masks table result = MatchResult result (AreMaskRows level masks table) (IsRowFault level masks table)
