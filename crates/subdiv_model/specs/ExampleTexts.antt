-- Texts and words for the examples: small meshes as inputs, and the outputs for them.
use Rattle.std.specs.Prelude.{ℕ, List, [], ◌∷◌, ◌++◌, codes}

-- the cube as an OBJ text
abbrev pub cube_text : List ℕ
cube_text = codes "v -1 -1 1\nv 1 -1 1\nv -1 1 1\nv 1 1 1\nv -1 1 -1\nv 1 1 -1\nv -1 -1 -1\nv 1 -1 -1\nf 1 2 4 3\nf 3 4 6 5\nf 5 6 8 7\nf 7 8 2 1\nf 2 8 6 4\nf 7 1 3 5\n"

-- the cube with line ends of two bytes, a comment, decimals, an ignored line, and a face with negative indices
abbrev pub other_cube_text : List ℕ
other_cube_text = codes "# cube\r\no cube\r\nv -1.0 -1.0 1.0\r\nv 1.0 -1.0 1.0\r\nv -1.0 1.0 1.0\r\nv 1.0 1.0 1.0\r\nv -1.0 1.0 -1.0\r\nv 1.0 1.0 -1.0\r\nv -1.0 -1.0 -1.0\r\nv 1.0 -1.0 -1.0\r\nf 1 2 4 3\r\nf -6 -5 -3 -4\r\nf 5 6 8 7\r\nf 7 8 2 1\r\nf 2 8 6 4\r\nf 7 1 3 5\r\n"

-- the cube refined once
abbrev pub refined_cube_text : List ℕ
refined_cube_text = codes "v -5/9 -5/9 5/9\nv 5/9 -5/9 5/9\nv -5/9 5/9 5/9\nv 5/9 5/9 5/9\nv -5/9 5/9 -5/9\nv 5/9 5/9 -5/9\nv -5/9 -5/9 -5/9\nv 5/9 -5/9 -5/9\nv 0 0 1\nv 0 1 0\nv 0 0 -1\nv 0 -1 0\nv 1 0 0\nv -1 0 0\nv 0 -3/4 3/4\nv 3/4 0 3/4\nv 0 3/4 3/4\nv -3/4 0 3/4\nv 3/4 3/4 0\nv 0 3/4 -3/4\nv -3/4 3/4 0\nv 3/4 0 -3/4\nv 0 -3/4 -3/4\nv -3/4 0 -3/4\nv 3/4 -3/4 0\nv -3/4 -3/4 0\nf 1 15 9 18\nf 2 16 9 15\nf 4 17 9 16\nf 3 18 9 17\nf 3 17 10 21\nf 4 19 10 17\nf 6 20 10 19\nf 5 21 10 20\nf 5 20 11 24\nf 6 22 11 20\nf 8 23 11 22\nf 7 24 11 23\nf 7 23 12 26\nf 8 25 12 23\nf 2 15 12 25\nf 1 26 12 15\nf 2 25 13 16\nf 8 22 13 25\nf 6 19 13 22\nf 4 16 13 19\nf 7 26 14 24\nf 1 18 14 26\nf 3 21 14 18\nf 5 24 14 21\n"

-- one quad
abbrev pub square_text : List ℕ
square_text = codes "v 0 0 0\nv 4 0 0\nv 4 4 0\nv 0 4 0\nf 1 2 3 4\n"

-- two quads side by side with a texture seam between them
abbrev pub seamed_text : List ℕ
seamed_text = codes "v 0 0 0\nv 1 0 0\nv 1 1 0\nv 0 1 0\nv 2 0 0\nv 2 1 0\nvt 0 0\nvt 1 0\nvt 1 1\nvt 0 1\nvt 4 0\nvt 5 0\nvt 5 1\nvt 4 1\nf 1/1 2/2 3/3 4/4\nf 2/5 5/6 6/7 3/8\n"

-- the cube with a vertex of sharpness 3/2, refined once, with its tags
abbrev pub corner_cube_refined_text : List ℕ
corner_cube_refined_text = codes "v -5/9 -5/9 5/9\nv 5/9 -5/9 5/9\nv -5/9 5/9 5/9\nv 1 1 1\nv -5/9 5/9 -5/9\nv 5/9 5/9 -5/9\nv -5/9 -5/9 -5/9\nv 5/9 -5/9 -5/9\nv 0 0 1\nv 0 1 0\nv 0 0 -1\nv 0 -1 0\nv 1 0 0\nv -1 0 0\nv 0 -3/4 3/4\nv 3/4 0 3/4\nv 0 3/4 3/4\nv -3/4 0 3/4\nv 3/4 3/4 0\nv 0 3/4 -3/4\nv -3/4 3/4 0\nv 3/4 0 -3/4\nv 0 -3/4 -3/4\nv -3/4 0 -3/4\nv 3/4 -3/4 0\nv -3/4 -3/4 0\nf 1 15 9 18\nf 2 16 9 15\nf 4 17 9 16\nf 3 18 9 17\nf 3 17 10 21\nf 4 19 10 17\nf 6 20 10 19\nf 5 21 10 20\nf 5 20 11 24\nf 6 22 11 20\nf 8 23 11 22\nf 7 24 11 23\nf 7 23 12 26\nf 8 25 12 23\nf 2 15 12 25\nf 1 26 12 15\nf 2 25 13 16\nf 8 22 13 25\nf 6 19 13 22\nf 4 16 13 19\nf 7 26 14 24\nf 1 18 14 26\nf 3 21 14 18\nf 5 24 14 21\nt interpolateboundary 1/0/0 2\nt corner 1/1/0 3 1/2\n"

-- the cube with a sharp vertex and a sharp edge, under the method chaikin
abbrev pub tagged_cube_text : List ℕ
tagged_cube_text = cube_text ++ codes "t corner 1/1/0 3 3\nt creasemethod 0/0/1 chaikin\nt crease 2/1/0 0 1 2\n"

-- the points of the square refined once
abbrev pub refined_square_points_text : List ℕ
refined_square_points_text = codes "v 1/2 1/2 0\nv 7/2 1/2 0\nv 7/2 7/2 0\nv 1/2 7/2 0\nv 2 2 0\nv 2 0 0\nv 4 2 0\nv 2 4 0\nv 0 2 0\n"

-- the square refined once
abbrev pub refined_square_text : List ℕ
refined_square_text = refined_square_points_text ++ codes "f 1 6 5 9\nf 2 7 5 6\nf 3 8 5 7\nf 4 9 5 8\n"

-- the square with sharp corners, refined once
abbrev pub sharp_square_refined_text : List ℕ
sharp_square_refined_text = codes "v 0 0 0\nv 4 0 0\nv 4 4 0\nv 0 4 0\nv 2 2 0\nv 2 0 0\nv 4 2 0\nv 2 4 0\nv 0 2 0\nf 1 6 5 9\nf 2 7 5 6\nf 3 8 5 7\nf 4 9 5 8\n"

-- the square hidden by its boundary mode, refined once, with its tags
abbrev pub hidden_square_refined_text : List ℕ
hidden_square_refined_text = refined_square_text ++ codes "t interpolateboundary 1/0/0 2\nt hole 1/0/0 0\nt hole 1/0/0 1\nt hole 1/0/0 2\nt hole 1/0/0 3\n"

-- two triangles back to back, refined once
abbrev pub refined_triangles_text : List ℕ
refined_triangles_text = codes "v 5 5 0\nv 2 5 0\nv 5 2 0\nv 4 4 0\nv 4 4 0\nv 5 2 0\nv 5 5 0\nv 2 5 0\nf 1 6 4 8\nf 2 7 4 6\nf 3 8 4 7\nf 1 8 5 6\nf 3 7 5 8\nf 2 6 5 7\n"

-- the lines of levels 0 and 1 of the cube with two creases, under the method chaikin
abbrev pub chaikin_levels_text : List ℕ
chaikin_levels_text = codes "level 0 points 8 edges 12 faces 6 euler 2 boundary 0 holes 0 sharp 2 extraordinary 8\nlevel 1 points 26 edges 48 faces 24 euler 2 boundary 0 holes 0 sharp 3 extraordinary 8\n"

-- the stencil table of the square after a step
abbrev pub square_table_text : List ℕ
square_table_text = codes "table controls 4 rows 9 entries 24\ns 8 0 6 1 1 3 1\ns 8 0 1 1 6 2 1\ns 8 1 1 2 6 3 1\ns 8 0 1 2 1 3 6\ns 4 0 1 1 1 2 1 3 1\ns 2 0 1 1 1\ns 2 1 1 2 1\ns 2 2 1 3 1\ns 2 0 1 3 1\n"

-- the summary of the sheet of one quad that `gen` makes from seed 0, after a step
abbrev pub sheet_summary_text : List ℕ
sheet_summary_text = codes "gen points 4 faces 1\nlevel 1 points 9 faces 4 entries 24 den 8\nlast 0 5 3\n"

-- the words of `refine` with each of its options
abbrev pub all_refine_words : List (List ℕ)
all_refine_words = codes "refine" ∷ codes "tags=yes" ∷ codes "by=level" ∷ codes "uv=corners" ∷ codes "decimals=18" ∷ codes "depth=10" ∷ []

-- the sparse levels of the square with sharp corners to depth 1: no face is a feature
abbrev pub sharp_square_sparse_text : List ℕ
sharp_square_sparse_text = codes "level 0 points 4 faces 1\nv 0 0 0\nv 4 0 0\nv 4 4 0\nv 0 4 0\nf l 0 1 2 3 4\nlevel 1 points 0 faces 0\n"

-- the first lines of the patch of the middle quad of the curved sheet, on a grid of 2
abbrev pub sheet_patch_start_text : List ℕ
sheet_patch_start_text = codes "patch face 4 grid 2\ns 0 0 1 1 4/3\ns 1 0 3/2 1 31/12\ns 2 0 2 1 13/3\ns 0 1 1 3/2 4/3\n"
