-- The table of the patch of a face, and its faults.
-- Source: this profile.
use Rattle.std.specs.Prelude.{ℕ, ◌≡◌, ◌<◌, ◌≤◌, true, false, length, Result, MatchResult}
use Rattle.std.specs.List.{All}
use Rattle.subdiv_model.specs.Level.{Level}
use Rattle.subdiv_model.specs.Patch.{has_patch, patch_masks}
use Rattle.subdiv_model.specs.Channel.{number_bound, entry_bound}
use Rattle.child_masks.specs.Masks.{IsFirstDenominator}
use Rattle.stencil_apply.specs.Table.{Table}
use Rattle.stencil_factory.specs.MaskRows.{AreMaskRows, mask_dens, mask_entries}
use Rattle.patch_bspline.specs.declared.fault.PatchFault.{PatchFault}
use Rattle.patch_bspline.specs.declared.fault.PatchFault.TheVariants.{NoFace, NotRegular, Denominator, TooManyEntries, Memory}

-- the level has the face, and the face has a patch
pub record HasPatch (level : Level) (face : ℕ) : Type 0 where
  pub inside : face < length level.polygons
  pub regular : has_patch level face ≡ true

-- the face has a patch, and the table has a row for each place of the grid
pub record IsPatchTable (level : Level) (face grid : ℕ) (table patch : Table) : Type 0 where
  pub has : HasPatch level face
  pub rows : AreMaskRows level (patch_masks level face grid) table patch

-- The first fault: the level has no such face; the face has no patch; the least row whose denominator passes its bound; too many entries.
-- Memory may run out at any step.
abbrev pub IsPatchFault : Level → ℕ → ℕ → Table → PatchFault → Type 0
IsPatchFault level face grid table NoFace = length level.polygons ≤ face
IsPatchFault level face grid table NotRegular = (face < length level.polygons) × (has_patch level face ≡ false)
IsPatchFault level face grid table (Denominator row) = HasPatch level face × IsFirstDenominator (mask_dens level table (patch_masks level face grid)) row
IsPatchFault level face grid table TooManyEntries =
    HasPatch level face × All (λ den. den ≤ number_bound) (mask_dens level table (patch_masks level face grid))
    × (entry_bound < mask_entries level table (patch_masks level face grid))
IsPatchFault level face grid table Memory = Unit {0}

-- the table of the patch of a face, or the first fault
abbrev pub IsPatchComposition : Level → ℕ → ℕ → Table → Result Table PatchFault → Type 0
IsPatchComposition level face grid table result = MatchResult result (IsPatchTable level face grid table) (IsPatchFault level face grid table)
