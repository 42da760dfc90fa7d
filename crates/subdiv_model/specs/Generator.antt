-- The mesh that `gen` makes: a sheet of quads whose heights and creases come from a seed.
-- Source: Drillolive.
use Rattle.std.specs.Prelude.{ℕ, zero, suc, ◌+◌, ◌*◌, ◌/◌, ◌%◌, ◌^◌, ℤ, pos, false, List, [], ◌∷◌, map, zip, drop, get_or}
use Rattle.std.specs.List.{flat_map, range_with_len}
use Rattle.subdiv_model.specs.Polygons.{Polygon}
use Rattle.subdiv_model.specs.Sharpness.{Sharpness, Normal, sharpness_of}
use Rattle.subdiv_model.specs.Boundary.{EdgeOnly}
use Rattle.subdiv_model.specs.ObjMesh.{ObjMesh}

-- the state after a draw
abbrev pub drawn_next : ℕ → ℕ
drawn_next x = (1103515245 * x + 12345) % 2 ^ 31

-- the value of a draw
abbrev pub drawn_value : ℕ → ℕ
drawn_value x = x / 65536 % 7

-- the values of a number of draws from a state
abbrev pub draws_from : ℕ → ℕ → List ℕ
draws_from zero x = []
draws_from (suc count) x = drawn_value (drawn_next x) ∷ draws_from count (drawn_next x)

-- one draw for each point, then one for each inner row of the sheet
abbrev pub draws_of : ℕ → ℕ → List ℕ
draws_of seed size = draws_from ((size + 1) * (size + 1) + size) (seed % 2 ^ 31)

-- the number of the point in row i and column j
abbrev pub sheet_point : ℕ → ℕ → ℕ → ℕ
sheet_point size i j = i * (size + 1) + j

-- the points of the sheet, with the draws as heights
abbrev pub sheet_points : ℕ → List ℕ → List (ℤ × ℤ × ℤ)
sheet_points size draws =
    flat_map
    (λ i. map (λ j. (pos (10 * j), pos (10 * i), pos (get_or draws (sheet_point size i j) 0))) (range_with_len 0 (size + 1)))
    (range_with_len 0 (size + 1))

-- the quad in row i and column j
abbrev pub sheet_quad : ℕ → ℕ → ℕ → Polygon
sheet_quad size i j =
    sheet_point size i j ∷ sheet_point size i (j + 1) ∷ sheet_point size (i + 1) (j + 1) ∷ sheet_point size (i + 1) j ∷ []

-- the quads of the sheet, row by row
abbrev pub sheet_faces : ℕ → List Polygon
sheet_faces size = flat_map (λ i. map (sheet_quad size i) (range_with_len 0 size)) (range_with_len 0 size)

-- creases along row i, with half of the draw as sharpness
abbrev pub row_creases : ℕ → ℕ → Sharpness → List ((ℕ × ℕ) × Sharpness)
row_creases size i s = map (λ j. ((sheet_point size i j, sheet_point size i (j + 1)), s)) (range_with_len 0 size)

-- the creases of the inner rows, each row with its draw
abbrev pub sheet_creases : ℕ → List ℕ → List ((ℕ × ℕ) × Sharpness)
sheet_creases size draws = flat_map (λ row. row_creases size row.0 (sharpness_of row.1 2)) (zip (drop 1 (range_with_len 0 size)) draws)

-- the sheet of a number of quads along a side, from its draws
abbrev pub sheet_of_draws : ℕ → List ℕ → ObjMesh
sheet_of_draws size draws = record {
  points = sheet_points size draws;
  common = 1;
  texture = [];
  texture_common = 1;
  faces = sheet_faces size;
  has_texture = false;
  texture_corners = [];
  creases = sheet_creases size (drop ((size + 1) * (size + 1)) draws);
  corner_tags = [];
  holes = [];
  boundary = EdgeOnly;
  method = Normal;
}

-- the sheet of a seed and a number of quads along a side
abbrev pub generated_mesh : ℕ → ℕ → ObjMesh
generated_mesh seed size = sheet_of_draws size (draws_of seed size)
