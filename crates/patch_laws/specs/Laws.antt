-- Regular faces with values, their children and their corners, for the laws of patches.
-- Source: Drillolive.
use Rattle.std.specs.Prelude.{ℕ, suc, zero, ◌<◌, ◌≤◌, ℤ, List, IsTrue, length, get_or}
use Rattle.std.specs.List.{All}
use Rattle.subdiv_model.specs.Polygons.{polygon_at}
use Rattle.subdiv_model.specs.Level.{Level}
use Rattle.subdiv_model.specs.Child.{child_level, refined_level}
use Rattle.subdiv_model.specs.Mask.{CatmullClark}
use Rattle.subdiv_model.specs.Refined.{child_values}
use Rattle.subdiv_model.specs.Value.{Value}
use Rattle.subdiv_model.specs.Patch.{has_patch, patch_mask}
use Rattle.subdiv_model.specs.Sparse.{child_number}
use Rattle.mask_laws.specs.Laws.{IsManifoldWithSharpBoundary}
use Rattle.limit_laws.specs.Laws.{HasLimit, value_in, values_after}

-- The face has a patch, in a manifold whose boundary is infinitely sharp. The values of the points are over denominators above 0.
pub record PatchFace : Type 0 where
  pub level : Level
  pub well : IsManifoldWithSharpBoundary level
  pub values : List Value
  pub above_zero : All (λ x. 0 < x.den) values
  pub face : ℕ
  pub inside : face < length level.polygons
  pub is : IsTrue (has_patch level face)

-- The face has a patch after k steps from a manifold whose boundary is infinitely sharp. The values are refined from control
-- numbers.
pub record RefinedPatchFace : Type 0 where
  pub base : Level
  pub well : IsManifoldWithSharpBoundary base
  pub controls : List ℤ
  pub k : ℕ
  pub face : ℕ
  pub inside : face < length (refined_level base k).polygons
  pub is : IsTrue (has_patch (refined_level base k) face)

-- the value of the patch of a face at a place (i, j) of a grid of m steps
abbrev pub patch_at : Level → List Value → ℕ → ℕ → ℕ × ℕ → Value
patch_at level values face m place = value_in level values (patch_mask level face m place)

-- the value of the patch of a face for its values
abbrev pub value_on : PatchFace → ℕ → ℕ × ℕ → Value
value_on face m place = patch_at face.level face.values face.face m place

-- the value of the patch of the child of a corner, in the next level for the values there
abbrev pub value_on_child : PatchFace → ℕ → ℕ → ℕ × ℕ → Value
value_on_child face c m place =
    patch_at (child_level face.level) (child_values face.level CatmullClark face.values) (child_number face.level.polygons (face.face, c)) m place

-- the value of the patch of a face for the values that its controls are refined to
abbrev pub refined_on : RefinedPatchFace → ℕ → ℕ × ℕ → Value
refined_on face m place = patch_at (refined_level face.base face.k) (values_after face.base face.controls face.k) face.face m place

-- the value of the patch of the child of a corner, after one more step
abbrev pub refined_on_child : RefinedPatchFace → ℕ → ℕ → ℕ × ℕ → Value
refined_on_child face c m place =
    patch_at (refined_level face.base (suc face.k)) (values_after face.base face.controls (suc face.k))
    (child_number (refined_level face.base face.k).polygons (face.face, c)) m place

-- the place of a corner of the face
abbrev pub corner_place : ℕ → ℕ → ℕ × ℕ
corner_place m zero = (0, 0)
corner_place m (suc zero) = (m, 0)
corner_place m (suc (suc zero)) = (m, m)
corner_place m (suc (suc (suc c))) = (0, m)

-- the vertex at a corner of a face
abbrev pub corner_of : Level → ℕ → ℕ → ℕ
corner_of level face c = get_or (polygon_at level.polygons face) c 0

-- the pair is a place of a grid of m steps
abbrev pub IsPlace : ℕ → ℕ × ℕ → Type 0
IsPlace m place = (1 ≤ m) × (place.0 ≤ m) × (place.1 ≤ m)

-- the point at a corner of a face has this limit, by the values that the controls of the face are refined to
abbrev pub HasCornerLimit : RefinedPatchFace → ℕ → Value → Type 0
HasCornerLimit face c x =
    HasLimit (refined_level face.base face.k) (values_after face.base face.controls face.k) (corner_of (refined_level face.base face.k) face.face c) x
