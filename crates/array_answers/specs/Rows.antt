-- The rows of a mesh in arrays, and the faults for which it has none.
use Rattle.std.specs.Prelude.{ℕ, ◌≡◌, ◌++◌, ◌⊎◌, List, Option, Some, None, Result, MatchResult}
use Rattle.subdiv_model.specs.Cut.{cut_level}
use Rattle.subdiv_model.specs.Fault.{Fault}
use Rattle.subdiv_model.specs.Limit.{limit_faults}
use Rattle.subdiv_model.specs.ObjMesh.{ObjMesh}
use Rattle.subdiv_model.specs.Table.{Table, level_table}
use Rattle.far_model.specs.Command.{Uv}
use Rattle.far_model.specs.Answer.{own_table, patch_mesh_faults, positions_of, scheme_of, seams_of, table_faults}
use Rattle.level_topology.specs.Topology.{Topology}
use Rattle.mesh_answers.specs.Limits.{AreLimitRows}
use Rattle.mesh_answers.specs.Patches.{ArePatchRows}
use Rattle.mesh_answers.specs.Tables.{IsComposedOf}
use Rattle.mesh_answers.specs.Textures.{IsTextureTable, IsTextureWith, IsWithoutTexture, texture_table_faults}
use Rattle.mesh_arrays.specs.Arrays.{mesh_of_arrays}
use Rattle.mesh_arrays.specs.Faults.{IsMeshOf}
use Rattle.mesh_arrays.specs.declared.arrays.MeshArrays.{MeshArrays}
use Rattle.array_answers.specs.ArrayRecords.{row}
use Rattle.array_answers.specs.declared.record.FaultRecord.{FaultRecord}
use Rattle.array_answers.specs.Asked.{Rows, PointRows, LimitPointRows, PatchRows, TextureRows, rows_asked, texture_asked}
use Rattle.array_answers.specs.Refused.{AreNoMesh, IsRefusedBy}
use Rattle.array_answers.specs.declared.request.RowRequest.{RowRequest}
use Rattle.array_answers.specs.declared.textures.TextureArrays.{TextureArrays}

-- the mesh is not refused, and the table gives its points at a depth as the definitions do
pub record ArePointRows (mesh : ObjMesh) (depth : ℕ) (table : Table) : Type 0 where
  pub level : Topology
  pub composed : IsComposedOf mesh depth (record { level = level; table = table })
  pub defined : table ≡ own_table depth mesh

-- the table gives the points of its texture, over the points of its cut mesh
pub record AreTextureRows (uv : Uv) (mesh : ObjMesh) (depth : ℕ) (table : Table) : Type 0 where
  pub level : Topology
  pub composed : IsTextureTable uv depth mesh (record { level = level; table = table })
  pub defined : table ≡ level_table (cut_level (seams_of uv) mesh) (scheme_of uv) depth

-- the table gives the limit points of the level at a depth
pub record AreLimitPointRows (mesh : ObjMesh) (depth : ℕ) (table : Table) : Type 0 where
  pub level : Topology
  pub limits : AreLimitRows mesh depth (record { level = level; table = table })

-- the table contains the requested rows of the mesh
abbrev pub AreRowsOf : Rows → ObjMesh → Table → Type 0
AreRowsOf (PointRows depth) mesh table = ArePointRows mesh depth table
AreRowsOf (LimitPointRows depth) mesh table = AreLimitPointRows mesh depth table
AreRowsOf (PatchRows options) mesh table = ArePatchRows options mesh table
AreRowsOf (TextureRows uv depth) mesh table = AreTextureRows uv mesh depth table

-- the faults that a mesh may have for the requested rows, in their order
abbrev pub row_faults : Rows → ObjMesh → List Fault
row_faults (PointRows depth) mesh = table_faults depth mesh
row_faults (LimitPointRows depth) mesh = table_faults depth mesh ++ limit_faults (positions_of mesh) depth
row_faults (PatchRows options) mesh = patch_mesh_faults options mesh
row_faults (TextureRows uv depth) mesh = texture_table_faults uv depth mesh

-- the rows are those of a texture, and the mesh is not refused but has none
abbrev pub LacksTexture : Rows → ObjMesh → Type 0
LacksTexture (TextureRows uv depth) mesh = IsWithoutTexture uv depth mesh
LacksTexture other mesh = ⊥

-- the record of an option out of its range, or of a texture that the mesh does not have
abbrev pub bad_request : FaultRecord
bad_request = row 19 0 0 0

-- the first fault of the mesh for the requested rows, or else its lack of the texture
abbrev pub AreRowsRefused : Rows → ObjMesh → FaultRecord → Type 0
AreRowsRefused rows mesh found = IsRefusedBy (row_faults rows mesh) mesh found ⊎ (LacksTexture rows mesh × (found ≡ bad_request))

-- the table, or the fault of the mesh
abbrev pub AreRowsComposed : Rows → ObjMesh → Result Table FaultRecord → Type 0
AreRowsComposed rows mesh result = MatchResult result (AreRowsOf rows mesh) (AreRowsRefused rows mesh)

-- the record of refused arrays: a number of the request comes first, then the arrays, then the mesh
abbrev pub IsRequestRefused : Option Rows → MeshArrays → FaultRecord → Type 0
IsRequestRefused None arrays found = found ≡ bad_request
IsRequestRefused (Some rows) arrays found =
    AreNoMesh arrays found ⊎ (IsMeshOf arrays (mesh_of_arrays arrays) × AreRowsRefused rows (mesh_of_arrays arrays) found)

-- the arrays are a mesh, and these are its rows
pub record AreArrayRows (rows : Rows) (arrays : MeshArrays) (table : Table) : Type 0 where
  pub good : IsMeshOf arrays (mesh_of_arrays arrays)
  pub are : AreRowsOf rows (mesh_of_arrays arrays) table

-- the arrays are a mesh, and these are the rows that the request asks for
pub record AreRowsAsked (request : RowRequest) (arrays : MeshArrays) (table : Table) : Type 0 where
  pub rows : Rows
  pub asked : rows_asked request ≡ Some rows
  pub found : AreArrayRows rows arrays table

-- the table, or the record of the first fault
abbrev pub AreRowsFound : RowRequest → MeshArrays → Result Table FaultRecord → Type 0
AreRowsFound request arrays result = MatchResult result (AreRowsAsked request arrays) (IsRequestRefused (rows_asked request) arrays)

-- the arrays are a mesh, and this is its texture, with the common denominator of the values
pub record IsArrayTexture (uv : Uv) (depth : ℕ) (arrays : MeshArrays) (found : TextureArrays) : Type 0 where
  pub good : IsMeshOf arrays (mesh_of_arrays arrays)
  pub texture_is : IsTextureWith uv depth (mesh_of_arrays arrays) found.texture
  pub common_is : found.common ≡ (mesh_of_arrays arrays).texture_common

-- the arrays are a mesh, and this is the texture that is asked for
pub record IsTextureAsked (seams depth : ℕ) (arrays : MeshArrays) (found : TextureArrays) : Type 0 where
  pub uv : Uv
  pub asked : texture_asked seams depth ≡ Some (TextureRows uv depth)
  pub found_is : IsArrayTexture uv depth arrays found

-- the texture, or the record of the first fault
abbrev pub IsTextureFound : ℕ → ℕ → MeshArrays → Result TextureArrays FaultRecord → Type 0
IsTextureFound seams depth arrays result =
    MatchResult result (IsTextureAsked seams depth arrays) (IsRequestRefused (texture_asked seams depth) arrays)
