-- The patch of a child has the values of the parent's patch.
use Rattle.std.proofs.Common.{ℕ, suc, ◌*◌, ◌<◌, refl, sym, subst}
use Rattle.subdiv_model.specs.Child.{child_level, refined_level}
use Rattle.subdiv_model.specs.Mask.{CatmullClark}
use Rattle.subdiv_model.specs.Value.{IsSameValue}
use Rattle.subdiv_model.specs.Refined.{mask_value, control_values, source_value, child_values}
use Rattle.subdiv_model.specs.Patch.{patch_points}
use Rattle.subdiv_model.specs.Sparse.{child_number}
use Rattle.subdiv_model.specs.Leaf.{in_quad}
use Rattle.limit_laws.specs.Laws.{values_after}
use Rattle.limit_laws.proofs.StepLemmas.{source-positive}
use Rattle.limit_laws.proofs.LevelLemmas.{well-levels, refined-positive, controls-positive}
use Rattle.grid_laws.specs.Grids.{child_grid, grid_from}
use Rattle.grid_laws.proofs.GridLemmas.{patch-grid, grid-from}
use Rattle.grid_laws.proofs.ChildPatchLemmas.{child-points}
use Rattle.patch_laws.specs.Laws.{PatchFace, RefinedPatchFace, IsPlace, patch_at}
use Rattle.patch_laws.proofs.ChildGridValueLemmas.{child-grid-value}
use Rattle.patch_laws.proofs.HalvingLemmas.{place_mask, halved-value}

-- one step, for all values of the points
pub child-step : (face : PatchFace) (c m : ℕ) (place : ℕ × ℕ) → c < 4 → IsPlace m place
    → IsSameValue (patch_at face.level face.values face.face (2 * m) (in_quad m c place))
    (patch_at (child_level face.level) (child_values face.level CatmullClark face.values) (child_number face.level.polygons (face.face, c)) m place)
child-step face c m place below is =
    let level = face.level in
    let next = child_level level in
    let later = child_values level CatmullClark face.values in
    let each = refined-positive level face.well face.values 1 face.above_zero in
    let grid = patch_points level face.face in
    let shape = patch-grid level face.face face.well face.inside face.is in
    let turned_shape = grid-from level grid c shape in
    let value = source_value level face.values in
    subst (λ points. IsSameValue (patch_at level face.values face.face (2 * m) (in_quad m c place)) (mask_value (source_value next later) (place_mask m place.0 place.1 points)))
    (sym (child-points level face.well face.face face.inside face.is c below))
    (halved-value value (source_value next later) (λ s. source-positive level face.values s face.above_zero) (λ s. source-positive next later s each)
    grid (child_grid level (grid_from c grid)) c m place.0 place.1 shape.listed refl below is.1 is.2 is.0
    (child-grid-value level face.well (grid_from c grid) turned_shape face.values face.above_zero))

-- the law for refined control numbers
pub child-controls : (face : RefinedPatchFace) (c m : ℕ) (place : ℕ × ℕ) → c < 4 → IsPlace m place
    → IsSameValue (patch_at (refined_level face.base face.k) (values_after face.base face.controls face.k) face.face (2 * m) (in_quad m c place))
    (patch_at (refined_level face.base (suc face.k)) (values_after face.base face.controls (suc face.k)) (child_number (refined_level face.base face.k).polygons (face.face, c)) m place)
child-controls face =
    child-step (record {
      level = refined_level face.base face.k;
      well = well-levels face.base face.well face.k;
      values = values_after face.base face.controls face.k;
      above_zero = refined-positive face.base face.well (control_values face.controls) face.k (controls-positive face.controls);
      face = face.face;
      inside = face.inside;
      is = face.is;
    })
