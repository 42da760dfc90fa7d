-- The table of the texture of a mesh at a depth.
use Rattle.std.specs.Prelude.{ℕ, ◌≡◌, true, false, List, [], ◌++◌, map, Option, Some, None, Result, MatchResult, if◌then◌else◌}
use Rattle.subdiv_model.specs.ObjMesh.{ObjMesh}
use Rattle.subdiv_model.specs.Cut.{channel_values}
use Rattle.subdiv_model.specs.Channel.{Tables, channel_faults}
use Rattle.subdiv_model.specs.Fault.{Fault, Texture}
use Rattle.subdiv_model.specs.Limits.{level_count_faults}
use Rattle.far_model.specs.Command.{Uv}
use Rattle.far_model.specs.Answer.{texture_of}
use Rattle.raw_mesh.specs.View.{texture_of as value_of}
use Rattle.stencil_apply.specs.Table.{IsTable}
use Rattle.channel_refine.specs.Composed.{IsComposedTo}
use Rattle.channel_refine.specs.View.{composed_of}
use Rattle.channel_refine.specs.declared.compose.ComposedChannel.{ComposedChannel}
use Rattle.far_fault.specs.View.{fault_of}
use Rattle.far_fault.specs.declared.fault.FarFault.{FarFault}
use Rattle.mesh_answers.specs.Levels.{IsSmallManifold}
use Rattle.mesh_answers.specs.Refusals.{IsFound, refusal_by}
use Rattle.mesh_answers.specs.Tracks.{IsBaseTexture}
use Rattle.mesh_answers.specs.declared.tracks.BaseTexture.{BaseTexture}
use Rattle.mesh_answers.specs.declared.texture_table.ComposedTexture.{ComposedTexture}

-- the channel of the texture of a mesh none of whose levels up to a depth has too many faces
pub record IsTextureBase (uv : Uv) (depth : ℕ) (mesh : ObjMesh) (texture : Option BaseTexture) : Type 0 where
  pub fine : IsSmallManifold depth mesh
  pub texture_is : IsBaseTexture uv mesh texture

-- the faults of the table of the texture at a depth, if the mesh has texture; the faults of its levels come first
abbrev pub texture_table_faults : Uv → ℕ → ObjMesh → List Fault
texture_table_faults uv depth mesh =
    level_count_faults mesh.faces depth ++ (if mesh.has_texture then channel_faults Tables (texture_of mesh uv) Texture depth else [])

-- the refusal of a mesh by the call for this table
abbrev pub texture_refusal : Uv → ℕ → ObjMesh → Option Fault
texture_refusal uv depth mesh = refusal_by (texture_table_faults uv depth mesh) mesh

-- the mesh is not refused, and this is the table of its texture over the points of its cut mesh
pub record IsTextureTable (uv : Uv) (depth : ℕ) (mesh : ObjMesh) (channel : ComposedChannel) : Type 0 where
  pub good : texture_refusal uv depth mesh ≡ None
  pub textured : mesh.has_texture ≡ true
  pub composed : IsComposedTo (texture_of mesh uv) depth (composed_of channel)
  pub made : IsTable channel.table

-- the mesh is not refused, and this is the table of its texture with the values of the points of its cut mesh
pub record IsTextureWith (uv : Uv) (depth : ℕ) (mesh : ObjMesh) (texture : ComposedTexture) : Type 0 where
  pub table_is : IsTextureTable uv depth mesh (record { level = texture.level; table = texture.table })
  pub values_are : map value_of texture.values.items ≡ channel_values mesh

-- the mesh is not refused, and has no texture
pub record IsWithoutTexture (uv : Uv) (depth : ℕ) (mesh : ObjMesh) : Type 0 where
  pub good : texture_refusal uv depth mesh ≡ None
  pub untextured : mesh.has_texture ≡ false

-- the texture if the mesh has one, and the mesh is not refused
abbrev pub IsComposedTexture : Uv → ℕ → ObjMesh → Option ComposedTexture → Type 0
IsComposedTexture uv depth mesh None = IsWithoutTexture uv depth mesh
IsComposedTexture uv depth mesh (Some texture) = IsTextureWith uv depth mesh texture

-- the texture if the mesh has one, or the refusal of the mesh
abbrev pub IsTextureComposition : Uv → ℕ → ObjMesh → Result (Option ComposedTexture) FarFault → Type 0
IsTextureComposition uv depth mesh result =
    MatchResult result (IsComposedTexture uv depth mesh) (λ fault. IsFound (fault_of fault) (texture_refusal uv depth mesh))
