-- The number of steps of a command with a mesh.
-- Source: this profile.
use Rattle.std.specs.Prelude.{ℕ, ◌+◌, length, Option, Some, None, if◌then◌else◌}
use Rattle.std.specs.List.{sum_by, range_with_len}
use Rattle.far_model.specs.Command.{ReadCommand, Refine, Sparse, Stencils, Limit, Levels, Patch, Map, MakeCommand, Gen, RefineOptions, SparseOptions, PatchOptions, Select, Uv, By, ByTable, ByLevel}
use Rattle.subdiv_model.specs.ObjMesh.{ObjMesh}
use Rattle.subdiv_model.specs.Level.{Level}
use Rattle.subdiv_model.specs.Base.{base_level}
use Rattle.subdiv_model.specs.Child.{refined_level, faces_after}
use Rattle.subdiv_model.specs.Cut.{cut_level}
use Rattle.subdiv_model.specs.Mask.{Scheme, CatmullClark, mask_terms}
use Rattle.subdiv_model.specs.Support.{entries_after}
use Rattle.subdiv_model.specs.Limit.{limit_entries_after}
use Rattle.subdiv_model.specs.Patch.{patch_entries_after}
use Rattle.subdiv_model.specs.Channel.{Channel}
use Rattle.subdiv_model.specs.Sparse.{FacePredicate}
use Rattle.subdiv_model.specs.SparseFaults.{present_entries, present_faces}
use Rattle.far_model.specs.Answer.{made_mesh, predicate_by, predicate_for, positions_of, seams_of, scheme_of, sparse_uv, texture_predicate, texture_of}

-- the number of faces of a mesh's levels from 1 to a depth
abbrev pub later_faces : ℕ → ObjMesh → ℕ
later_faces depth mesh = sum_by (faces_after mesh.faces) (range_with_len 1 depth)

-- the number of faces of a mesh's levels from 0 to a depth
abbrev pub level_faces_to : ℕ → ObjMesh → ℕ
level_faces_to depth mesh = length mesh.faces + later_faces depth mesh

-- the number of steps of a channel's values up to a depth: one for each entry of its table, or one for each mask term
abbrev pub channel_steps : By → Level → Scheme → ℕ → ℕ
channel_steps ByTable base scheme depth = entries_after base scheme depth
channel_steps ByLevel base scheme depth = sum_by (λ k. mask_terms (refined_level base k) scheme) (range_with_len 0 depth)

-- the steps of the positions
abbrev pub position_steps : By → ℕ → ObjMesh → ℕ
position_steps by depth mesh = channel_steps by (base_level mesh) CatmullClark depth

-- the most steps of refining the positions: one for each later face, and those of the channel
abbrev pub position_most : RefineOptions → ObjMesh → ℕ
position_most options mesh = later_faces options.depth mesh + position_steps options.by options.depth mesh

-- the steps of the values of the texture
abbrev pub texture_steps : RefineOptions → ObjMesh → ℕ
texture_steps options mesh = channel_steps options.by (cut_level (seams_of options.uv) mesh) (scheme_of options.uv) options.depth

-- these steps if the mesh has texture, else none
abbrev pub where_textured : ObjMesh → ℕ → ℕ
where_textured mesh steps = if mesh.has_texture then steps else 0

-- the least and the most steps of refining the texture of a mesh, 0 if it has none
abbrev pub texture_least : RefineOptions → ObjMesh → ℕ
texture_least options mesh = where_textured mesh (texture_steps options mesh)

abbrev pub texture_most : RefineOptions → ObjMesh → ℕ
texture_most options mesh = where_textured mesh (later_faces options.depth mesh + texture_steps options mesh)

-- the least number of steps of `refine`
abbrev pub refine_least : RefineOptions → ObjMesh → ℕ
refine_least options mesh = position_steps options.by options.depth mesh + where_textured mesh (texture_steps options mesh)

-- the greatest number of steps of `refine`
abbrev pub refine_limit : RefineOptions → ObjMesh → ℕ
refine_limit options mesh =
    level_faces_to options.depth mesh + position_steps options.by options.depth mesh
    + where_textured mesh (level_faces_to options.depth mesh + texture_steps options mesh)

-- the number of present faces of a mesh's sparse levels from 1 to a depth
abbrev pub later_present : Select → ℕ → ObjMesh → ℕ
later_present select depth mesh = sum_by (present_faces (base_level mesh) (predicate_by select depth mesh)) (range_with_len 1 depth)

-- the number of present faces of a mesh's sparse levels from 0 to a depth; all faces of level 0 are present
abbrev pub present_faces_to : Select → ℕ → ObjMesh → ℕ
present_faces_to select depth mesh = length mesh.faces + later_present select depth mesh

-- the number of entries of the tables of the present points of a channel's levels
abbrev pub present_entries_to : Channel → FacePredicate → ℕ → ℕ
present_entries_to channel predicate depth = sum_by (present_entries channel predicate) (range_with_len 0 (depth + 1))

-- the number of steps of the sparse levels of the positions after level 0
abbrev pub sparse_position_steps : SparseOptions → ObjMesh → ℕ
sparse_position_steps options mesh =
    later_present options.select options.depth mesh + present_entries_to (positions_of mesh) (predicate_for options mesh) options.depth

-- the number of steps of the sparse levels of the texture after level 0
abbrev pub sparse_texture_steps : SparseOptions → ObjMesh → Uv → ℕ
sparse_texture_steps options mesh uv =
    sum_by (present_faces (texture_of mesh uv).base (texture_predicate options mesh)) (range_with_len 1 options.depth)
    + present_entries_to (texture_of mesh uv) (texture_predicate options mesh) options.depth

-- the number of steps of the cut mesh: one for each face, if there is a texture
abbrev pub sparse_cut_steps : ObjMesh → Option Uv → ℕ
sparse_cut_steps mesh None = 0
sparse_cut_steps mesh (Some uv) = length mesh.faces

-- these steps if there is a texture, else none
abbrev pub where_sparse_texture : SparseOptions → ObjMesh → Option Uv → ℕ
where_sparse_texture options mesh None = 0
where_sparse_texture options mesh (Some uv) = sparse_texture_steps options mesh uv

-- the number of steps of `sparse` after level 0
abbrev pub sparse_later_steps : SparseOptions → ObjMesh → ℕ
sparse_later_steps options mesh = sparse_position_steps options mesh + where_sparse_texture options mesh (sparse_uv options mesh)

-- the greatest number of steps of `sparse`
abbrev pub sparse_limit : SparseOptions → ObjMesh → ℕ
sparse_limit options mesh = length mesh.faces + sparse_cut_steps mesh (sparse_uv options mesh) + sparse_later_steps options mesh

-- the number of entries of the table of a mesh's limit points at a depth
abbrev pub limit_steps : ℕ → ObjMesh → ℕ
limit_steps depth mesh = limit_entries_after (positions_of mesh) depth

-- the number of entries of the rows of a patch
abbrev pub patch_steps : PatchOptions → ObjMesh → ℕ
patch_steps options mesh = patch_entries_after (positions_of mesh) options.depth options.face options.grid

-- the least number of steps of a command that answers
abbrev pub least_steps : ReadCommand → ObjMesh → ℕ
least_steps (Refine options) mesh = refine_least options mesh
least_steps (Sparse options) mesh = 0
least_steps (Stencils depth) mesh = 0
least_steps (Limit options) mesh = limit_steps options.depth mesh
least_steps (Levels depth) mesh = 0
least_steps (Patch options) mesh = patch_steps options mesh
least_steps (Map options) mesh = 0

-- The greatest number of steps of a command, for the positions and for the texture: one for each face of the levels that it makes, and
-- the steps of the values. Sparse levels take one for each present face and one for each entry of a present point. Limit points and a
-- patch take one for each entry of their table besides the faces. A map takes one for each present face.
abbrev pub step_limit : ReadCommand → ObjMesh → ℕ
step_limit (Refine options) mesh = refine_limit options mesh
step_limit (Sparse options) mesh = sparse_limit options mesh
step_limit (Stencils depth) mesh = level_faces_to depth mesh
step_limit (Limit options) mesh = level_faces_to options.depth mesh + limit_steps options.depth mesh
step_limit (Levels depth) mesh = level_faces_to depth mesh
step_limit (Patch options) mesh = level_faces_to options.depth mesh + patch_steps options mesh
step_limit (Map options) mesh = present_faces_to options.select options.depth mesh

-- the least number of steps of a command that makes its mesh and answers
abbrev pub made_least : MakeCommand → ℕ
made_least (Gen options) = position_steps ByTable options.depth (made_mesh (Gen options))

-- the greatest number of steps of a command that makes its mesh
abbrev pub made_limit : MakeCommand → ℕ
made_limit (Gen options) = level_faces_to options.depth (made_mesh (Gen options)) + position_steps ByTable options.depth (made_mesh (Gen options))
