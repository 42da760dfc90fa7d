-- The rows of a request.
use Rattle.std.specs.Prelude.{ℕ, zero, suc, ◌^◌, ◌<◌, ◌≤◌, ◌&&◌, nat_le, nat_lt, Option, Some, None, option_map, if◌then◌else◌}
use Rattle.far_model.specs.Command.{PatchOptions, Uv, SmoothUv, CornersUv, BoundariesUv, LinearUv}
use Rattle.array_answers.specs.declared.request.RowRequest.{RowRequest}

-- requested rows: of points, of limit points, of the patch of a face, and of texture points
pub data Rows : Type 0 where
  PointRows : ℕ → Rows
  LimitPointRows : ℕ → Rows
  PatchRows : PatchOptions → Rows
  TextureRows : Uv → ℕ → Rows

-- the rule of a texture, by its number
abbrev pub uv_of_number : ℕ → Option Uv
uv_of_number zero = Some SmoothUv
uv_of_number (suc zero) = Some CornersUv
uv_of_number (suc (suc zero)) = Some BoundariesUv
uv_of_number (suc (suc (suc zero))) = Some LinearUv
uv_of_number (suc (suc (suc (suc number)))) = None

-- the points of the level at a depth, if the depth is in its range
abbrev pub points_asked : ℕ → Option Rows
points_asked depth = if nat_le depth 10 then Some (PointRows depth) else None

-- the limit points of the level at a depth, if the depth is in its range
abbrev pub limits_asked : ℕ → Option Rows
limits_asked depth = if nat_le 1 depth && nat_le depth 10 then Some (LimitPointRows depth) else None

-- the patch of a face, if all numbers are in their ranges
abbrev pub patch_asked : ℕ → ℕ → ℕ → Option Rows
patch_asked depth face grid =
    if nat_le depth 10 && (nat_lt face (2 ^ 22) && (nat_le 1 grid && nat_le grid 64)) then Some (PatchRows (record { depth = depth; face = face; grid = grid })) else None

-- the texture points of the level at a depth, if both numbers are in their ranges
abbrev pub texture_asked : ℕ → ℕ → Option Rows
texture_asked seams depth = if nat_le depth 10 then option_map (λ uv. TextureRows uv depth) (uv_of_number seams) else None

-- the rows of the kind with this number, if the numbers that it looks at are in their ranges
abbrev pub rows_of_kind : ℕ → RowRequest → Option Rows
rows_of_kind zero request = points_asked request.depth
rows_of_kind (suc zero) request = limits_asked request.depth
rows_of_kind (suc (suc zero)) request = patch_asked request.depth request.face request.grid
rows_of_kind (suc (suc (suc zero))) request = texture_asked request.seams request.depth
rows_of_kind (suc (suc (suc (suc kind)))) request = None

-- the rows that a request asks for, or none
abbrev pub rows_asked : RowRequest → Option Rows
rows_asked request = rows_of_kind request.kind request

-- the numbers of the requested rows
abbrev pub AreInRange : Rows → Type 0
AreInRange (PointRows depth) = depth ≤ 10
AreInRange (LimitPointRows depth) = (1 ≤ depth) × (depth ≤ 10)
AreInRange (PatchRows options) = (options.depth ≤ 10) × (options.face < 2 ^ 22) × (1 ≤ options.grid) × (options.grid ≤ 64)
AreInRange (TextureRows uv depth) = depth ≤ 10
