-- Control numbers, creases and terms of masks on small meshes, for the examples.
use Rattle.std.specs.Prelude.{ℕ, ◌^◌, ℤ, pos, negsuc, List, [], ◌∷◌, ◌++◌, map, codes}
use Rattle.subdiv_model.specs.Level.{Level}
use Rattle.subdiv_model.specs.ObjMesh.{ObjMesh}
use Rattle.subdiv_model.specs.Base.{base_level}
use Rattle.subdiv_model.specs.Mask.{Scheme, CatmullClark, OfPoint, Term, weigh, weigh_points, weigh_faces}
use Rattle.subdiv_model.specs.Refined.{control_values, refined_values}
use Rattle.subdiv_model.specs.Channel.{Channel}
use Rattle.subdiv_model.specs.Examples.{fine_cube}
use Rattle.subdiv_model.specs.NumberText.{value_text}
use Rattle.subdiv_model.specs.Text.{refined_text}
use Rattle.subdiv_model.specs.Sharpness.{Sharpness, Infinite, Chaikin}

-- the coordinates of the cube in x
abbrev pub cube_x : List ℤ
cube_x = negsuc 0 ∷ pos 1 ∷ negsuc 0 ∷ pos 1 ∷ negsuc 0 ∷ pos 1 ∷ negsuc 0 ∷ pos 1 ∷ []

-- the coordinates of the cube in z
abbrev pub cube_z : List ℤ
cube_z = pos 1 ∷ pos 1 ∷ pos 1 ∷ pos 1 ∷ negsuc 0 ∷ negsuc 0 ∷ negsuc 0 ∷ negsuc 0 ∷ []

-- the coordinates of the square in x
abbrev pub square_x : List ℤ
square_x = pos 0 ∷ pos 4 ∷ pos 4 ∷ pos 0 ∷ []

-- the coordinates of the square in x after a step, as texts
abbrev pub refined_square_x : List (List ℕ)
refined_square_x = codes "1/2" ∷ codes "7/2" ∷ codes "7/2" ∷ codes "1/2" ∷ codes "2" ∷ codes "2" ∷ codes "4" ∷ codes "2" ∷ codes "0" ∷ []

-- the three points of two triangles, as whole numbers
abbrev pub triangle_points : List (ℤ × ℤ × ℤ)
triangle_points = (pos 0, pos 0, pos 0) ∷ (pos 12, pos 0, pos 0) ∷ (pos 0, pos 12, pos 0) ∷ []

-- three other points of two triangles, over 100
abbrev pub triangle_points_in_hundredths : List (ℤ × ℤ × ℤ)
triangle_points_in_hundredths = (pos 0, pos 50, negsuc 149) ∷ (pos 100, pos 0, pos 0) ∷ (pos 0, pos 1, pos 0) ∷ []

-- a row of four points, with the squares of their places as heights
abbrev pub curved_row : ℤ → List (ℤ × ℤ × ℤ)
curved_row y = (pos 0, y, pos 0) ∷ (pos 1, y, pos 1) ∷ (pos 2, y, pos 4) ∷ (pos 3, y, pos 9) ∷ []

-- the points of the sheet of three by three quads, curved along its rows
abbrev pub curved_sheet_points : List (ℤ × ℤ × ℤ)
curved_sheet_points = curved_row (pos 0) ++ (curved_row (pos 1) ++ (curved_row (pos 2) ++ curved_row (pos 3)))

-- control numbers up to 10^37 on the fine cube, under the method chaikin
abbrev pub fine_channel : Channel
fine_channel = record {
  base = fine_cube Chaikin;
  scheme = CatmullClark;
  greatest = 10 ^ 37;
  common = 1;
}

-- terms with one repeated source and one weight of 0
abbrev pub repeated_terms : List Term
repeated_terms = weigh_points 2 (5 ∷ 4 ∷ []) ++ (weigh_points 0 (3 ∷ []) ++ (weigh_points 1 (5 ∷ []) ++ weigh_faces 4 (5 ∷ [])))

-- the terms of the mask of vertex 4 of the octahedron of two creases
abbrev pub octahedron_vertex_terms : List Term
octahedron_vertex_terms =
    weigh_points 20 (4 ∷ []) ++ (weigh_points 3 (1 ∷ 0 ∷ []) ++ (weigh_points 1 (2 ∷ 3 ∷ []) ++ weigh_faces 1 (0 ∷ 1 ∷ 2 ∷ 3 ∷ [])))

-- The terms of the patch mask of the middle quad of the sheet at its first corner. The weights are 16 for the corner, 4 for each
-- neighbour along an edge, and 1 for each other point of its faces.
abbrev pub patch_corner_terms : List Term
patch_corner_terms =
    weigh 1 (OfPoint 0) ∷ weigh 4 (OfPoint 1) ∷ weigh 1 (OfPoint 2) ∷ weigh 4 (OfPoint 4) ∷ weigh 16 (OfPoint 5) ∷ weigh 4 (OfPoint 6)
    ∷ weigh 1 (OfPoint 8) ∷ weigh 4 (OfPoint 9) ∷ weigh 1 (OfPoint 10) ∷ []

-- the edges of the face of the cube at z = 1
abbrev pub cube_ring : List ((ℕ × ℕ) × Sharpness)
cube_ring = ((0, 1), Infinite) ∷ ((1, 3), Infinite) ∷ ((3, 2), Infinite) ∷ ((2, 0), Infinite) ∷ []

-- the texts of the values after k steps from these control numbers
abbrev pub refined_value_texts : Level → Scheme → List ℤ → ℕ → List (List ℕ)
refined_value_texts level scheme controls k = map value_text (refined_values level scheme (control_values controls) k)

-- the text of a mesh without texture after k Catmull-Clark steps
abbrev pub refined_text_of : ObjMesh → ℕ → List ℕ
refined_text_of mesh k = refined_text (base_level mesh) CatmullClark mesh.common mesh.points k
