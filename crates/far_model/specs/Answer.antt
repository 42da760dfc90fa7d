-- The answer of the program to all words and all bytes of its input.
-- Source: Drillolive.
use Rattle.std.specs.Prelude.{ℕ, ◌≡◌, ◌^◌, ℤ, Bool, false, nat_lt, List, [], ◌∷◌, ◌++◌, length, Option, Some, None, Result, Ok, Err, codes, if◌then◌else◌}
use Rattle.std.specs.List.{flat_map}
use Rattle.subdiv_model.specs.Lists.{first_of}
use Rattle.subdiv_model.specs.MeshFault.{MeshFault, first_mesh_fault}
use Rattle.subdiv_model.specs.ObjFault.{ObjFault}
use Rattle.subdiv_model.specs.ObjMesh.{ObjMesh}
use Rattle.subdiv_model.specs.ReadObj.{obj_lines, read_obj_fault, read_obj_mesh, lines_fault, mesh_of_lines}
use Rattle.subdiv_model.specs.Level.{Level}
use Rattle.subdiv_model.specs.Base.{base_level}
use Rattle.subdiv_model.specs.Child.{refined_level}
use Rattle.subdiv_model.specs.Mask.{Scheme, CatmullClark, Linear}
use Rattle.subdiv_model.specs.Value.{Value}
use Rattle.subdiv_model.specs.Refined.{Point, refined_points, refined_texture}
use Rattle.subdiv_model.specs.Support.{entries_after}
use Rattle.subdiv_model.specs.Cut.{SeamMode, SmoothSeams, CornerSeams, BoundarySeams, cut_level, channel_values}
use Rattle.subdiv_model.specs.Channel.{Channel, Asked, Sharpnesses, Values, Tables, greatest_amount, greatest_denominator, channel_faults}
use Rattle.subdiv_model.specs.Feature.{FaceFacts, is_feature, is_selectable}
use Rattle.subdiv_model.specs.Sparse.{FacePredicate, predicate_to}
use Rattle.subdiv_model.specs.SparseFaults.{sparse_faults}
use Rattle.subdiv_model.specs.SparseText.{sparse_text}
use Rattle.subdiv_model.specs.SparseTexture.{SparseTrack, selected_to, textured_sparse_text}
use Rattle.subdiv_model.specs.Leaf.{Location, base_location, grid_pairs, leaf_line, leaf_of, location_faults}
use Rattle.subdiv_model.specs.Limit.{limit_faults, limit_points}
use Rattle.subdiv_model.specs.Patch.{patch_faults, patch_text}
use Rattle.subdiv_model.specs.Generator.{generated_mesh}
use Rattle.far_model.specs.Command.{Command, Reads, Stored, Makes, Streams, StoredCommand, Verify, Apply, ReadCommand, Refine, Sparse, Stencils, Limit, Levels, Patch, Map, MakeCommand, Gen, StreamCommand, Frames, RefineOptions, SparseOptions, LimitOptions, PatchOptions, MapOptions, FramesOptions, Select, FeatureFaces, AllFaces, Uv, SmoothUv, CornersUv, BoundariesUv, LinearUv, By, ByTable, ByLevel, read_words}
use Rattle.subdiv_model.specs.Limits.{count_faults, level_count_faults}
use Rattle.subdiv_model.specs.Fault.{Fault, Usage, Long, Obj, Mesh, Positions, Texture}
use Rattle.far_model.specs.Refusal.{Answer, refused, answer_unless}
use Rattle.far_model.specs.Stream.{LineRule, answer_of_lines}
use Rattle.far_model.specs.Frames.{mesh_lines, frames_rule}
use Rattle.subdiv_model.specs.NumberText.{number_text}
use Rattle.subdiv_model.specs.Text.{line_text, point_words, mesh_text, textured_mesh_text, tags_text}
use Rattle.subdiv_model.specs.LevelText.{levels_text}
use Rattle.subdiv_model.specs.Fault as faults
use Rattle.subdiv_model.specs.Table.{Table, level_table}
use Rattle.subdiv_model.specs.TableFault.{TableFault}
use Rattle.subdiv_model.specs.ReadTable.{Reading, read_table}
use Rattle.subdiv_model.specs.TableText.{table_text}
pub use Rattle.far_model.specs.Stored.{point_numbers}
use Rattle.far_model.specs.Stored.{mesh_part, answer_of_stored_table, control_fault, points_text}

-- the most bytes of an input
abbrev pub byte_limit : ℕ
byte_limit = 2 ^ 28

-- the coordinates of all texture values
abbrev pub texture_numbers : List (ℤ × ℤ) → List ℤ
texture_numbers values = flat_map (λ p. p.0 ∷ p.1 ∷ []) values

-- the channel of the positions of a mesh
abbrev pub positions_of : ObjMesh → Channel
positions_of mesh = record {
  base = base_level mesh;
  scheme = CatmullClark;
  greatest = greatest_amount (point_numbers mesh.points);
  common = mesh.common;
}

-- the seam mode of a texture option
abbrev pub seams_of : Uv → SeamMode
seams_of SmoothUv = SmoothSeams
seams_of CornersUv = CornerSeams
seams_of BoundariesUv = BoundarySeams
seams_of LinearUv = SmoothSeams

-- the scheme of a texture option
abbrev pub scheme_of : Uv → Scheme
scheme_of SmoothUv = CatmullClark
scheme_of CornersUv = CatmullClark
scheme_of BoundariesUv = CatmullClark
scheme_of LinearUv = Linear

-- the channel of the texture of a mesh, by a texture option
abbrev pub texture_of : ObjMesh → Uv → Channel
texture_of mesh uv = record {
  base = cut_level (seams_of uv) mesh;
  scheme = scheme_of uv;
  greatest = greatest_amount (texture_numbers (channel_values mesh));
  common = mesh.texture_common;
}

-- the faults that each path of `refine` asks for
abbrev pub asked_of : By → Asked
asked_of ByTable = Tables
asked_of ByLevel = Values

-- the faults of the levels of the positions, then those of the texture
abbrev pub refine_faults : RefineOptions → ObjMesh → List Fault
refine_faults options mesh =
    channel_faults (asked_of options.by) (positions_of mesh) Positions options.depth
    ++ (if mesh.has_texture then channel_faults (asked_of options.by) (texture_of mesh options.uv) Texture options.depth else [])

-- the test that selects faces
abbrev pub test_of : Select → FaceFacts → Bool
test_of FeatureFaces = is_feature
test_of AllFaces = is_selectable

-- the predicate of the selected faces of a mesh to a depth
abbrev pub predicate_by : Select → ℕ → ObjMesh → FacePredicate
predicate_by select depth mesh = predicate_to (test_of select) (base_level mesh) depth

-- the predicate of the selected faces, by the options of `sparse`
abbrev pub predicate_for : SparseOptions → ObjMesh → FacePredicate
predicate_for options mesh = predicate_by options.select options.depth mesh

-- the refinement of the texture of the sparse levels, if the mesh has texture and the options ask for it
abbrev pub sparse_uv : SparseOptions → ObjMesh → Option Uv
sparse_uv options mesh = if mesh.has_texture then options.uv else None

-- the predicate of the texture: at each level the faces that are selected in the mesh
abbrev pub texture_predicate : SparseOptions → ObjMesh → FacePredicate
texture_predicate options mesh = selected_to (base_level mesh) (predicate_for options mesh) options.depth

-- the faults of the sparse levels of the texture, if there is one
abbrev pub sparse_texture_faults : SparseOptions → ObjMesh → Option Uv → List Fault
sparse_texture_faults options mesh None = []
sparse_texture_faults options mesh (Some uv) = sparse_faults Tables (texture_of mesh uv) (texture_predicate options mesh) Texture options.depth

-- the faults of the sparse levels of the positions, then those of the texture
abbrev pub sparse_mesh_faults : SparseOptions → ObjMesh → List Fault
sparse_mesh_faults options mesh =
    sparse_faults Tables (positions_of mesh) (predicate_for options mesh) Positions options.depth
    ++ sparse_texture_faults options mesh (sparse_uv options mesh)

-- the faults of the sparse levels in the number of their faces and in their sharpness, and of the face whose places are asked for
abbrev pub map_mesh_faults : MapOptions → ObjMesh → List Fault
map_mesh_faults options mesh =
    sparse_faults Sharpnesses (positions_of mesh) (predicate_by options.select options.depth mesh) Positions options.depth
    ++ location_faults (base_level mesh) options.face options.corner

-- the faults of a table of the positions
abbrev pub table_faults : ℕ → ObjMesh → List Fault
table_faults depth mesh = level_count_faults mesh.faces depth ++ channel_faults Tables (positions_of mesh) Positions depth

-- the faults of a table of the positions, and of the rows of their limit points
abbrev pub limit_mesh_faults : LimitOptions → ObjMesh → List Fault
limit_mesh_faults options mesh = table_faults options.depth mesh ++ limit_faults (positions_of mesh) options.depth

-- the faults of a table of the positions, and of the rows of a patch
abbrev pub patch_mesh_faults : PatchOptions → ObjMesh → List Fault
patch_mesh_faults options mesh = table_faults options.depth mesh ++ patch_faults (positions_of mesh) options.depth options.face options.grid

-- the faults of a command with an accepted mesh, in order
abbrev pub command_faults : ReadCommand → ObjMesh → List Fault
command_faults (Refine options) mesh = level_count_faults mesh.faces options.depth ++ refine_faults options mesh
command_faults (Sparse options) mesh = sparse_mesh_faults options mesh
command_faults (Stencils depth) mesh = table_faults depth mesh
command_faults (Limit options) mesh = limit_mesh_faults options mesh
command_faults (Levels depth) mesh = level_count_faults mesh.faces depth ++ channel_faults Sharpnesses (positions_of mesh) Positions depth
command_faults (Patch options) mesh = patch_mesh_faults options mesh
command_faults (Map options) mesh = map_mesh_faults options mesh

-- the mesh that a command makes
abbrev pub made_mesh : MakeCommand → ObjMesh
made_mesh (Gen options) = generated_mesh options.seed options.size

-- the faults of a command with the mesh that it makes
abbrev pub made_faults : MakeCommand → List Fault
made_faults (Gen options) = table_faults options.depth (generated_mesh options.seed options.size)

-- the points of a mesh at a depth
abbrev pub points_after : ObjMesh → ℕ → List Point
points_after mesh depth = refined_points (base_level mesh) CatmullClark mesh.common mesh.points depth

-- the texture points of a mesh at a depth, by a texture option
abbrev pub texture_after : ObjMesh → Uv → ℕ → List (Value × Value)
texture_after mesh uv depth = refined_texture (cut_level (seams_of uv) mesh) (scheme_of uv) mesh.texture_common (channel_values mesh) depth

-- the points, the texture and the faces at a depth; with tags, faces that are holes are written too
abbrev pub refined_mesh_text : RefineOptions → ObjMesh → List ℕ
refined_mesh_text options mesh =
    if mesh.has_texture
    then textured_mesh_text options.decimals options.tags (refined_level (base_level mesh) options.depth) (points_after mesh options.depth)
    (refined_level (cut_level (seams_of options.uv) mesh) options.depth) (texture_after mesh options.uv options.depth)
    else mesh_text options.decimals options.tags (refined_level (base_level mesh) options.depth) (points_after mesh options.depth)

-- the limit points of a mesh at a depth
abbrev pub limit_points_after : ObjMesh → ℕ → List Point
limit_points_after mesh depth = limit_points (base_level mesh) mesh.common mesh.points depth

-- the text of `limit`: the limit points at a depth, and the faces there
abbrev pub limit_mesh_text : LimitOptions → ObjMesh → List ℕ
limit_mesh_text options mesh =
    mesh_text options.decimals false (refined_level (base_level mesh) options.depth) (limit_points_after mesh options.depth)

-- the points of the patch of a face at a depth
abbrev pub patch_mesh_text : PatchOptions → ObjMesh → List ℕ
patch_mesh_text options mesh = patch_text (base_level mesh) options.face options.grid mesh.common mesh.points options.depth

-- the sparse levels of the positions
abbrev pub sparse_positions : SparseOptions → ObjMesh → SparseTrack Point
sparse_positions options mesh = record { base = base_level mesh; predicate = predicate_for options mesh; values = points_after mesh }

-- the sparse levels of the texture, by a texture option
abbrev pub sparse_texture : SparseOptions → ObjMesh → Uv → SparseTrack (Value × Value)
sparse_texture options mesh uv =
    record { base = cut_level (seams_of uv) mesh; predicate = texture_predicate options mesh; values = texture_after mesh uv }

-- the text of `sparse`, with texture if there is one
abbrev pub sparse_mesh_text : SparseOptions → ObjMesh → Option Uv → List ℕ
sparse_mesh_text options mesh None = sparse_text options.decimals (points_after mesh) (base_level mesh) (predicate_for options mesh) options.depth
sparse_mesh_text options mesh (Some uv) =
    textured_sparse_text options.decimals (sparse_positions options mesh) (sparse_texture options mesh uv) options.depth

-- the leaf of each pair of the grid on a face
abbrev pub map_leaf : MapOptions → ObjMesh → ℕ × ℕ → Location
map_leaf options mesh pair =
    leaf_of options.grid options.depth (base_level mesh) (predicate_by options.select options.depth mesh) (base_location options.face options.corner pair)

-- the text of `map`: a line for each pair of the grid
abbrev pub map_mesh_text : MapOptions → ObjMesh → List ℕ
map_mesh_text options mesh = flat_map (λ pair. leaf_line options.grid pair (map_leaf options mesh pair)) (grid_pairs options.grid)

-- the tags of a level, if the options ask for them
abbrev pub written_tags : Bool → Level → List ℕ
written_tags tags level = if tags then tags_text level else []

-- the line of a made mesh: its numbers of points and faces
abbrev pub generated_line : ObjMesh → List ℕ
generated_line mesh =
    line_text (codes "gen") (codes "points" ∷ number_text (length mesh.points) ∷ codes "faces" ∷ number_text (length mesh.faces) ∷ [])

-- the line of the level of a made mesh: its depth, and its numbers of points, faces and entries
abbrev pub generated_level_line : ℕ → Level → Channel → List ℕ
generated_level_line depth level channel =
    line_text (codes "level")
    (number_text depth
    ∷ codes "points" ∷ number_text level.point_count
    ∷ codes "faces" ∷ number_text (length level.polygons)
    ∷ codes "entries" ∷ number_text (entries_after channel.base channel.scheme depth)
    ∷ codes "den" ∷ number_text (greatest_denominator channel depth)
    ∷ [])

-- the line of the last point
abbrev pub last_line : List Point → List ℕ
last_line [] = []
last_line (point ∷ []) = line_text (codes "last") (point_words point)
last_line (point ∷ (next ∷ points)) = last_line (next ∷ points)

-- the text of `gen` for its mesh and depth
abbrev pub generated_text : ObjMesh → ℕ → List ℕ
generated_text mesh depth =
    generated_line mesh
    ++ (generated_level_line depth (refined_level (base_level mesh) depth) (positions_of mesh)
    ++ last_line (points_after mesh depth))

-- the text that a command writes for an accepted mesh without faults
abbrev pub command_text : ReadCommand → ObjMesh → List ℕ
command_text (Refine options) mesh = refined_mesh_text options mesh ++ written_tags options.tags (refined_level (base_level mesh) options.depth)
command_text (Sparse options) mesh = sparse_mesh_text options mesh (sparse_uv options mesh)
command_text (Stencils depth) mesh = table_text (base_level mesh) CatmullClark depth
command_text (Limit options) mesh = limit_mesh_text options mesh
command_text (Levels depth) mesh = levels_text (base_level mesh) depth
command_text (Patch options) mesh = patch_mesh_text options mesh
command_text (Map options) mesh = map_mesh_text options mesh

-- the text of a command that makes its mesh
abbrev pub made_text : MakeCommand → List ℕ
made_text (Gen options) = generated_text (generated_mesh options.seed options.size) options.depth

-- the answer for an accepted mesh, whose counts are judged first
abbrev pub answer_of_mesh : ReadCommand → ObjMesh → Answer
answer_of_mesh command mesh = answer_unless (first_of (count_faults mesh ++ command_faults command mesh)) (command_text command mesh)

-- the answer for a mesh after the judgement of its faces
abbrev pub answer_of_checked : ReadCommand → Option MeshFault → ObjMesh → Answer
answer_of_checked command (Some fault) mesh = refused (Mesh fault)
answer_of_checked command None mesh = answer_of_mesh command mesh

-- the answer for a mesh after the judgement of its text
abbrev pub answer_of_read : ReadCommand → Option ObjFault → ObjMesh → Answer
answer_of_read command (Some fault) mesh = refused (Obj fault)
answer_of_read command None mesh = answer_of_checked command (first_mesh_fault (length mesh.points) mesh.faces) mesh

-- the answer to an input of at most 2^28 bytes; a longer input is refused
abbrev pub unless_long : (List ℕ → Answer) → List ℕ → Answer
unless_long answer bytes = if nat_lt byte_limit (length bytes) then refused Long else answer bytes

-- the answer of a command that reads a mesh
abbrev pub answer_of_bytes : ReadCommand → List ℕ → Answer
answer_of_bytes command bytes = unless_long (λ text. answer_of_read command (read_obj_fault text 0) (read_obj_mesh text 0)) bytes

-- the answer for a mesh that the program makes and accepts unread
abbrev pub answer_of_made : MakeCommand → Answer
answer_of_made command = answer_unless (first_of (count_faults (made_mesh command) ++ made_faults command)) (made_text command)

-- the refusal of the lines of a mesh whose table at a depth is composed, where a power of ten divides the common denominator
abbrev pub composition_refusal : ℕ → ℕ → List (List (List ℕ)) → Option Fault
composition_refusal depth scale lines = (answer_of_read (Stencils depth) (lines_fault lines scale) (mesh_of_lines lines scale)).refusal

-- the refusal of the lines of a mesh whose points are moved
abbrev pub frames_refusal : FramesOptions → List (List (List ℕ)) → Option Fault
frames_refusal options lines = composition_refusal options.depth options.scale lines

-- the mesh of the lines
abbrev pub frames_mesh : FramesOptions → List (List (List ℕ)) → ObjMesh
frames_mesh options lines = mesh_of_lines lines options.scale

-- the lines of the mesh in the bytes of an input: those before the first line `frames`
abbrev pub frames_lines : List ℕ → List (List (List ℕ))
frames_lines bytes = mesh_lines (obj_lines bytes)

-- the mesh before a stored table
abbrev pub mesh_before_table : List ℕ → ObjMesh
mesh_before_table bytes = mesh_of_lines (mesh_part bytes) 0

-- the table of a mesh at a depth
abbrev pub own_table : ℕ → ObjMesh → Table
own_table depth mesh = level_table (base_level mesh) CatmullClark depth

-- the answer that reports whether the stored table is that of the mesh before it
abbrev pub answer_of_verify : ℕ → List ℕ → Answer
answer_of_verify depth bytes = answer_of_stored_table (composition_refusal depth 0 (mesh_part bytes)) (own_table depth (mesh_before_table bytes)) bytes

-- the answer with the stored table evaluated over the points of the text after it
abbrev pub answer_of_apply : Result Reading TableFault → Answer
answer_of_apply (Err fault) = refused (faults.Table fault)
answer_of_apply (Ok reading) =
    let mesh = read_obj_mesh reading.rest 0 in
    answer_unless (control_fault reading.table (read_obj_fault reading.rest 0) mesh) (points_text reading.table mesh)

-- the answer of a command to a stored table
abbrev pub answer_of_stored_text : StoredCommand → List ℕ → Answer
answer_of_stored_text (Verify depth) bytes = answer_of_verify depth bytes
answer_of_stored_text Apply bytes = answer_of_apply (read_table bytes)

-- the answer of a command to an input with a stored table of at most 2^28 bytes
abbrev pub answer_of_stored : StoredCommand → List ℕ → Answer
answer_of_stored command bytes = unless_long (answer_of_stored_text command) bytes

-- what each line of an input adds, under a command that answers while it reads
abbrev pub rule_of : StreamCommand → LineRule
rule_of (Frames options) = frames_rule options.depth (frames_refusal options) (frames_mesh options)

-- the answer of a command to the bytes of its input
abbrev pub answer_of_command : Command → List ℕ → Answer
answer_of_command (Reads command) bytes = answer_of_bytes command bytes
answer_of_command (Stored command) bytes = answer_of_stored command bytes
answer_of_command (Makes command) bytes = answer_of_made command
answer_of_command (Streams command) bytes = answer_of_lines (rule_of command) byte_limit bytes

-- the answer to a command line that was read, or the refusal of its bad word
abbrev pub answer_of_words : Result Command ℕ → List ℕ → Answer
answer_of_words (Ok command) bytes = answer_of_command command bytes
answer_of_words (Err word) bytes = refused (Usage word)

-- the answer to words and bytes
abbrev pub answer : List (List ℕ) → List ℕ → Answer
answer words bytes = answer_of_words (read_words words) bytes

-- neither the lines nor the faces of the mesh have a fault
abbrev pub IsAcceptedOfLines : FramesOptions → List (List (List ℕ)) → ObjMesh → Type 0
IsAcceptedOfLines options lines mesh =
    (lines_fault lines options.scale ≡ None) × (frames_mesh options lines ≡ mesh) × (first_mesh_fault (length mesh.points) mesh.faces ≡ None)

-- neither the lines before the stored table nor the faces of their mesh have a fault; points for `apply` are not judged as a mesh
abbrev pub IsAcceptedBeforeTable : StoredCommand → List ℕ → ObjMesh → Type 0
IsAcceptedBeforeTable (Verify depth) bytes mesh =
    (lines_fault (mesh_part bytes) 0 ≡ None) × (mesh_before_table bytes ≡ mesh) × (first_mesh_fault (length mesh.points) mesh.faces ≡ None)
IsAcceptedBeforeTable Apply bytes mesh = ⊥

-- the mesh of a command is accepted: a made mesh always, and a read one if neither its text nor its faces have a fault
abbrev pub IsAcceptedMesh : Command → List ℕ → ObjMesh → Type 0
IsAcceptedMesh (Reads command) bytes mesh =
    (read_obj_fault bytes 0 ≡ None) × (read_obj_mesh bytes 0 ≡ mesh) × (first_mesh_fault (length mesh.points) mesh.faces ≡ None)
IsAcceptedMesh (Stored command) bytes mesh = IsAcceptedBeforeTable command bytes mesh
IsAcceptedMesh (Makes command) bytes mesh = made_mesh command ≡ mesh
IsAcceptedMesh (Streams (Frames options)) bytes mesh = IsAcceptedOfLines options (frames_lines bytes) mesh
