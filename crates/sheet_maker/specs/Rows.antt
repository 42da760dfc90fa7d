-- The rows of a sheet.
use Rattle.std.specs.Prelude.{ℕ, ◌+◌, ◌*◌, ◌<◌, ℤ, pos, List, map, get_or}
use Rattle.std.specs.List.{flat_map, range_with_len}
use Rattle.subdiv_model.specs.Generator.{sheet_point, sheet_quad, row_creases}
use Rattle.subdiv_model.specs.Sharpness.{Sharpness, sharpness_of}
use Rattle.raw_mesh.specs.declared.tags.Crease.{Crease}

-- the number of points
abbrev pub point_count : ℕ → ℕ
point_count size = (size + 1) * (size + 1)

-- the point in row i and column j
abbrev pub place_of : ℕ → List ℕ → ℕ → ℕ → ℤ × ℤ × ℤ
place_of size draws i j = (pos (10 * j), pos (10 * i), pos (get_or draws (sheet_point size i j) 0))

-- the points of row i
abbrev pub row_points : ℕ → List ℕ → ℕ → List (ℤ × ℤ × ℤ)
row_points size draws i = map (place_of size draws i) (range_with_len 0 (size + 1))

-- the corners of the quads of row i, one after the other
abbrev pub row_corners : ℕ → ℕ → List ℕ
row_corners size i = flat_map (sheet_quad size i) (range_with_len 0 size)

-- the corners of the quads of all rows
abbrev pub sheet_corners : ℕ → List ℕ
sheet_corners size = flat_map (row_corners size) (range_with_len 0 size)

-- the crease along row i from column j to the next
abbrev pub crease_at : ℕ → ℕ → Sharpness → ℕ → (ℕ × ℕ) × Sharpness
crease_at size i s j = ((sheet_point size i j, sheet_point size i (j + 1)), s)

-- half of a draw
abbrev pub drawn_sharpness : ℕ → Sharpness
drawn_sharpness draw = sharpness_of draw 2

-- the creases along a row, with its draw
abbrev pub drawn_creases : ℕ → ℕ × ℕ → List ((ℕ × ℕ) × Sharpness)
drawn_creases size row = row_creases size row.0 (drawn_sharpness row.1)

-- both ends of a crease are points of the sheet
abbrev pub HasEnds : ℕ → Crease → Type 0
HasEnds size c = (c.a < point_count size) × (c.b < point_count size)
