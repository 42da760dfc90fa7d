-- Rules, meshes and lines of answers for the examples.
use Rattle.std.specs.Prelude.{ℕ, ◌+◌, pos, Bool, false, nat_eq, nat_lt, List, [], ◌∷◌, ◌++◌, length, get_or, Some, None, codes, if◌then◌else◌}
use Rattle.std.specs.List.{flat_map}
use Rattle.subdiv_model.specs.Base.{base_level}
use Rattle.subdiv_model.specs.Cut.{SmoothSeams, cut_level}
use Rattle.subdiv_model.specs.ExampleTexts.{cube_text, seamed_text}
use Rattle.subdiv_model.specs.Fault.{ChaikinOverflow, Entries, Fault, Long, Memory, Mesh, Obj, Overflow, Positions, Read, TooLarge, Usage, Write}
use Rattle.subdiv_model.specs.Level.{Level}
use Rattle.subdiv_model.specs.MeshFault.{SplitVertex}
use Rattle.subdiv_model.specs.NumberText.{number_text}
use Rattle.subdiv_model.specs.ObjFault.{UnknownKeyword, LongLine}
use Rattle.subdiv_model.specs.Leaf.{leaf_line}
use Rattle.subdiv_model.specs.ObjMesh.{ObjMesh}
use Rattle.subdiv_model.specs.ReadObj.{read_obj_mesh}
use Rattle.subdiv_model.specs.SparseText.{WrittenLevel, written_level}
use Rattle.subdiv_model.specs.SparseTexture.{textured_level_line, textured_sparse_line}
use Rattle.subdiv_model.specs.Text.{texture_line}
use Rattle.subdiv_model.specs.Value.{whole_value}
use Rattle.far_model.specs.Answer.{map_leaf, predicate_for, texture_after, texture_predicate}
use Rattle.far_model.specs.Command.{FeatureFaces, Select, SmoothUv, SparseOptions, uv_of}
use Rattle.far_model.specs.Refusal.{refused, answer_unless}
use Rattle.far_model.specs.Stream.{LineRule}
use Rattle.far_model.specs.Words.{option_value}

-- the first texture line after a step, by the refinement of the texture
abbrev pub first_texture : List ℕ → List ℕ
first_texture uv = texture_line None (get_or (texture_after (read_obj_mesh seamed_text 0) (uv_of (option_value uv)) 1) 0 (whole_value (pos 0), whole_value (pos 0)))

-- the line begins with `x`
abbrev pub begins_with_x : List ℕ → Bool
begins_with_x [] = false
begins_with_x (b ∷ line) = nat_eq b 120

-- A rule that repeats each line. It refuses a line that begins with `x`, and an unclosed line of more than two bytes. It ends
-- with the number of lines.
abbrev pub echo_rule : LineRule
echo_rule = record {
  line = λ before line.
      if begins_with_x line
      then refused (Obj (record { line = length before + 1; cause = UnknownKeyword }))
      else answer_unless None (line ++ codes "\n");
  unclosed = λ before bytes. if nat_lt 2 (length bytes) then Some (Obj (record { line = length before + 1; cause = LongLine })) else None;
  end = λ lines. answer_unless None (number_text (length lines));
}

-- a sheet of three by three quads, with the squares of their places in a row
abbrev pub curved_sheet_text : List ℕ
curved_sheet_text = codes "v 0 0 0\nv 1 0 1\nv 2 0 4\nv 3 0 9\nv 0 1 0\nv 1 1 1\nv 2 1 4\nv 3 1 9\nv 0 2 0\nv 1 2 1\nv 2 2 4\nv 3 2 9\nv 0 3 0\nv 1 3 1\nv 2 3 4\nv 3 3 9\nf 1 2 6 5\nf 2 3 7 6\nf 3 4 8 7\nf 5 6 10 9\nf 6 7 11 10\nf 7 8 12 11\nf 9 10 14 13\nf 10 11 15 14\nf 11 12 16 15\n"

-- three quads in a row with a seam between the first and the second, sharp corners and a crease
abbrev pub seamed_strip_text : List ℕ
seamed_strip_text = codes "v 0 0 0\nv 1 0 0\nv 2 0 0\nv 3 0 0\nv 0 1 0\nv 1 1 0\nv 2 1 0\nv 3 1 0\nvt 0 0\nvt 1 0\nvt 2 0\nvt 3 0\nvt 4 0\nvt 5 0\nvt 6 0\nvt 7 0\nvt 8 0\nvt 9 0\nf 1/1 2/2 6/3 5/4\nf 2/5 3/6 7/7 6/8\nf 3/6 4/9 8/10 7/7\nt interpolateboundary 1/0/0 1\nt crease 2/1/0 2 6 2\n"

-- options of `sparse` with smooth texture and depth 1
abbrev pub textured_options : Select → SparseOptions
textured_options select = record { depth = 1; select = select; decimals = None; uv = Some SmoothUv }

-- a level of the texture of a text, as it is written
abbrev pub texture_level : Select → ObjMesh → ℕ → WrittenLevel
texture_level select mesh k = written_level (cut_level SmoothSeams mesh) (texture_predicate (textured_options select) mesh) k

-- the line with the counts of a level
abbrev pub level_head : Select → List ℕ → ℕ → List ℕ
level_head select text k =
    let mesh = read_obj_mesh text 0 in
    textured_level_line k (written_level (base_level mesh) (predicate_for (textured_options select) mesh) k) (texture_level select mesh k)

-- the lines of the faces of a level
abbrev pub level_faces : Select → List ℕ → ℕ → List ℕ
level_faces select text k =
    let mesh = read_obj_mesh text 0 in
    flat_map (textured_sparse_line (texture_level select mesh k)) (written_level (base_level mesh) (predicate_for (textured_options select) mesh) k).faces

-- the line of `map` for a pair on face 0 of the cube, to a depth and on a grid
abbrev pub cube_leaf : ℕ → ℕ → ℕ × ℕ → List ℕ
cube_leaf depth grid pair =
    leaf_line grid pair (map_leaf (record { depth = depth; face = 0; grid = grid; corner = 0; select = FeatureFaces }) (read_obj_mesh cube_text 0) pair)

-- level 0 of the mesh of a text
abbrev pub level_of_text : List ℕ → Level
level_of_text text = base_level (read_obj_mesh text 0)

-- what `levels` writes for the square at depth 0
abbrev pub square_levels_text : List ℕ
square_levels_text = codes "level 0 points 4 edges 4 faces 1 euler 1 boundary 4 holes 0 sharp 0 extraordinary 0\n"

-- the sparse levels of the square to depth 1, with all faces selected
abbrev pub square_sparse_text : List ℕ
square_sparse_text = codes "level 0 points 4 faces 1\nv 0 0 0\nv 4 0 0\nv 4 4 0\nv 0 4 0\nf s 0 1 2 3 4\nlevel 1 points 9 faces 4\nv 1/2 1/2 0\nv 2 0 0\nv 2 2 0\nv 0 2 0\nv 7/2 1/2 0\nv 4 2 0\nv 7/2 7/2 0\nv 2 4 0\nv 1/2 7/2 0\nf l 0 1 2 3 4\nf l 1 5 6 3 2\nf l 2 7 8 3 6\nf l 3 9 4 3 8\n"

-- the map of the square at depth 0, on a grid of 1
abbrev pub square_map_text : List ℕ
square_map_text = codes "p 0 0 level 0 face 0 corner 0 at 0 0\np 1 0 level 0 face 0 corner 0 at 1 0\np 0 1 level 0 face 0 corner 0 at 0 1\np 1 1 level 0 face 0 corner 0 at 1 1\n"

-- the limit points of the square after a step, with two decimals
abbrev pub square_limit_text : List ℕ
square_limit_text = codes "v 0.67 0.67 0.00\nv 3.33 0.67 0.00\nv 3.33 3.33 0.00\nv 0.67 3.33 0.00\nv 2.00 2.00 0.00\nv 2.00 0.17 0.00\nv 3.83 2.00 0.00\nv 2.00 3.83 0.00\nv 0.17 2.00 0.00\nf 1 6 5 9\nf 2 7 5 6\nf 3 8 5 7\nf 4 9 5 8\n"

-- faults of eight kinds, in the order of their statuses
abbrev pub faults_by_status : List Fault
faults_by_status = Usage 0 ∷ Read ∷ Long ∷ Mesh (SplitVertex 0) ∷ TooLarge (Entries 2) ∷ Overflow Positions 1 ChaikinOverflow ∷ Write ∷ Memory ∷ []
