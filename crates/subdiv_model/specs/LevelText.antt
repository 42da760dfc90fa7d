-- The line of a level with its counts.
-- Source: Drillolive.
use Rattle.std.specs.Prelude.{ℕ, ◌+◌, ℤ, pos, ◌-ℤ◌, unsigned_abs, Bool, not, ◌&&◌, nat_eq, nat_lt, List, [], ◌∷◌, ◌++◌, length, codes}
use Rattle.std.specs.List.{flat_map, count_by, range_with_len}
use Rattle.subdiv_model.specs.Edges.{edges_of, is_boundary}
use Rattle.subdiv_model.specs.Level.{Level, edges_at, faces_at, is_hole}
use Rattle.subdiv_model.specs.Child.{refined_level}
use Rattle.subdiv_model.specs.Base.{is_at_boundary}
use Rattle.subdiv_model.specs.NumberText.{number_text, sign_text}
use Rattle.subdiv_model.specs.Text.{line_text, is_written_crease}

-- the number of points that have a face
abbrev pub used_points : Level → ℕ
used_points level = count_by (λ v. nat_lt 0 (length (faces_at level v))) (range_with_len 0 level.point_count)

-- Euler's number: points that have a face, less edges, plus faces
abbrev pub euler_number : Level → ℤ
euler_number level = pos (used_points level + length level.polygons) -ℤ pos (length (edges_of level.polygons))

-- the number of boundary edges
abbrev pub boundary_edges : Level → ℕ
boundary_edges level = count_by (is_boundary level.polygons) (edges_of level.polygons)

-- the number of faces that are holes
abbrev pub hole_count : Level → ℕ
hole_count level = count_by (is_hole level) (range_with_len 0 (length level.polygons))

-- the number of edges that have two faces and are sharp
abbrev pub sharp_edges : Level → ℕ
sharp_edges level = count_by (is_written_crease level) (edges_of level.polygons)

-- the point is off the boundary, has a face, and does not have four edges
abbrev pub is_extraordinary : Level → ℕ → Bool
is_extraordinary level v =
    not (is_at_boundary level.polygons v) && nat_lt 0 (length (faces_at level v)) && not (nat_eq (length (edges_at level v)) 4)

-- the number of extraordinary points
abbrev pub extraordinary_vertices : Level → ℕ
extraordinary_vertices level = count_by (is_extraordinary level) (range_with_len 0 level.point_count)

-- a whole number in decimal digits, with `-` if it is negative
abbrev pub whole_text : ℤ → List ℕ
whole_text n = sign_text n ++ number_text (unsigned_abs n)

-- the line of a level: its number and its counts
abbrev pub level_line : ℕ → Level → List ℕ
level_line k level =
    line_text (codes "level")
    (number_text k
    ∷ codes "points" ∷ number_text level.point_count
    ∷ codes "edges" ∷ number_text (length (edges_of level.polygons))
    ∷ codes "faces" ∷ number_text (length level.polygons)
    ∷ codes "euler" ∷ whole_text (euler_number level)
    ∷ codes "boundary" ∷ number_text (boundary_edges level)
    ∷ codes "holes" ∷ number_text (hole_count level)
    ∷ codes "sharp" ∷ number_text (sharp_edges level)
    ∷ codes "extraordinary" ∷ number_text (extraordinary_vertices level)
    ∷ [])

-- a line for each level from 0 to the depth
abbrev pub levels_text : Level → ℕ → List ℕ
levels_text base depth = flat_map (λ k. level_line k (refined_level base k)) (range_with_len 0 (depth + 1))
