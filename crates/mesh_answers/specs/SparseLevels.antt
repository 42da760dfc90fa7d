-- The sparse levels of a mesh and of its texture.
use Rattle.std.specs.Prelude.{ℕ, ◌≡◌, ◌+◌, ◌<◌, List, [], length, get_or, map, Option, Some, None, Result, MatchResult, Vec}
use Rattle.std.specs.Global.{Global}
use Rattle.std.specs.List.{All, AllZip}
use Rattle.subdiv_model.specs.Lists.{first_of}
use Rattle.subdiv_model.specs.MeshFault.{first_mesh_fault}
use Rattle.subdiv_model.specs.Limits.{count_faults}
use Rattle.subdiv_model.specs.Value.{Value}
use Rattle.subdiv_model.specs.Refined.{Point}
use Rattle.subdiv_model.specs.Cut.{channel_values}
use Rattle.subdiv_model.specs.ObjMesh.{ObjMesh}
use Rattle.subdiv_model.specs.Channel.{Channel, Tables, denominators_after}
use Rattle.subdiv_model.specs.Sparse.{FacePredicate}
use Rattle.subdiv_model.specs.SparseText.{written_points}
use Rattle.subdiv_model.specs.Fault.{Fault, Positions}
use Rattle.subdiv_model.specs.SparseFaults.{sparse_faults}
use Rattle.subdiv_model.specs.SparseTexture.{SparsePart, points_part, texture_part}
use Rattle.far_model.specs.Command.{SparseOptions, Uv}
use Rattle.far_model.specs.Answer.{predicate_for, positions_of, sparse_positions, sparse_texture, sparse_texture_faults, sparse_uv, texture_of, texture_predicate}
use Rattle.sparse_values.specs.Uniform.{items_at}
use Rattle.ratio128.specs.declared.point.Point2.{Point2}
use Rattle.ratio128.specs.declared.point.Point3.{Point3}
use Rattle.raw_mesh.specs.View.{texture_of as value_of}
use Rattle.sparse_level.specs.declared.values.SparseValues.{SparseValues}
use Rattle.far_text.specs.Points.{points_of, CanBeWritten, IsSamePoint, HasDenominators}
use Rattle.far_text.specs.Texture.{texture_points_of, CanTextureBeWritten, IsSameTexturePoint, HasTextureDenominators}
use Rattle.far_fault.specs.View.{fault_of}
use Rattle.far_fault.specs.declared.fault.FarFault.{FarFault}
use Rattle.mesh_answers.specs.Refusals.{IsFound, refusal_by}
use Rattle.mesh_answers.specs.declared.tracks.BaseTexture.{BaseTexture}
use Rattle.mesh_answers.specs.declared.tracks.BaseTracks.{BaseTracks}
use Rattle.far_text.specs.declared.textured_sparse.TexturedSparse.{TexturedSparse}

-- the channel of the texture with its values, or nothing if the sparse levels have no texture
abbrev pub IsSparseBase : Option Uv → ObjMesh → Option BaseTexture → Type 0
IsSparseBase uv mesh None = uv ≡ None
IsSparseBase uv mesh (Some texture) =
    (mode : Uv) × (uv ≡ Some mode) × (texture.base ≡ texture_of mesh mode) × (map value_of texture.values.items ≡ channel_values mesh)

-- the mesh is a manifold, and its counts are within their limits
pub record IsWithinLimits (mesh : ObjMesh) : Type 0 where
  pub manifold : first_mesh_fault (length mesh.points) mesh.faces ≡ None
  pub small : first_of (count_faults mesh) ≡ None

-- the channels of a mesh for its sparse levels
pub record AreSparseTracks (options : SparseOptions) (mesh : ObjMesh) (tracks : BaseTracks) : Type 0 where
  pub mesh_is : IsWithinLimits mesh
  pub positions : tracks.positions ≡ positions_of mesh
  pub texture : IsSparseBase (sparse_uv options mesh) mesh tracks.texture

-- the denominators of the written points of a sparse level: those of the points in the whole level
abbrev pub written_denominators : Channel → FacePredicate → ℕ → List ℕ
written_denominators channel predicate k = items_at (written_points channel.base predicate k) 1 (denominators_after channel k)

-- A level is that of the definitions. Its values are the written points, over the common denominator. Each value has its own
-- denominator as given.
pub record IsPointsLevel (common : ℕ) (denominators : List ℕ) (level : SparseValues Point3) (part : SparsePart Point) : Type 0 where
  pub faces : level.faces ≡ part.level
  pub dens : map (λ value. value.den) level.values.items ≡ denominators
  pub same : AllZip IsSamePoint (points_of common level.values.items) part.values
  pub positive : All HasDenominators part.values
  pub written : All (CanBeWritten common) level.values.items

-- A level of texture is that of the definitions. Its values are the written texture points, over the common denominator. Each value has
-- its own denominator as given.
pub record IsTextureLevel (common : ℕ) (denominators : List ℕ) (level : SparseValues Point2) (part : SparsePart (Value × Value)) : Type 0 where
  pub faces : level.faces ≡ part.level
  pub dens : map (λ value. value.den) level.values.items ≡ denominators
  pub same : AllZip IsSameTexturePoint (texture_points_of common level.values.items) part.values
  pub positive : All HasTextureDenominators part.values
  pub written : All (CanTextureBeWritten common) level.values.items

-- the faults of the sparse levels of the positions up to the depth
abbrev pub sparse_position_faults : SparseOptions → ObjMesh → List Fault
sparse_position_faults options mesh = sparse_faults Tables (positions_of mesh) (predicate_for options mesh) Positions options.depth

-- the sparse levels of the positions from 0 to the depth, for a mesh without fault
pub record ArePointsLevels (options : SparseOptions) (mesh : ObjMesh) (levels : List (SparseValues Point3)) : Type 0 where
  pub mesh_is : IsWithinLimits mesh
  pub fine : sparse_position_faults options mesh ≡ []
  pub count : length levels ≡ options.depth + 1
  pub each : (k : ℕ) (d : SparseValues Point3) → k < length levels
      → IsPointsLevel mesh.common (written_denominators (positions_of mesh) (predicate_for options mesh) k) (get_or levels k d) (points_part (sparse_positions options mesh) k)

-- the sparse levels of a texture that is refined by this rule, without fault
pub record AreTextureLevels (options : SparseOptions) (mesh : ObjMesh) (mode : Uv) (levels : List (SparseValues Point2)) : Type 0 where
  pub fine : sparse_texture_faults options mesh (Some mode) ≡ []
  pub count : length levels ≡ options.depth + 1
  pub each : (k : ℕ) (d : SparseValues Point2) → k < length levels
      → IsTextureLevel mesh.texture_common (written_denominators (texture_of mesh mode) (texture_predicate options mesh) k) (get_or levels k d)
      (texture_part (sparse_texture options mesh mode) k)

-- the sparse levels of the texture, if the options ask for it
abbrev pub AreSparseTexture : SparseOptions → ObjMesh → List (SparseValues Point2) → Type 0
AreSparseTexture options mesh levels = (mode : Uv) × (sparse_uv options mesh ≡ Some mode) × AreTextureLevels options mesh mode levels

-- the first fault of the positions, or none
abbrev pub sparse_position_refusal : SparseOptions → ObjMesh → Option Fault
sparse_position_refusal options mesh = first_of (sparse_position_faults options mesh)

-- the first fault of the texture, or none
abbrev pub sparse_texture_refusal : SparseOptions → ObjMesh → Option Fault
sparse_texture_refusal options mesh = first_of (sparse_texture_faults options mesh (sparse_uv options mesh))

-- the sparse levels of the positions, or the refusal of the mesh by the call for positions only
abbrev pub ArePointsLevelsFound : SparseOptions → ObjMesh → Result (Vec (SparseValues Point3) Global) FarFault → Type 0
ArePointsLevelsFound options mesh result =
    MatchResult result (λ levels. ArePointsLevels options mesh levels.items) (λ fault. IsFound (fault_of fault) (refusal_by (sparse_position_faults options mesh) mesh))

-- the sparse levels of a mesh and of its texture, as a reply writes them
abbrev pub textured_sparse : ObjMesh → Option ℕ → Vec (SparseValues Point3) Global → Vec (SparseValues Point2) Global → TexturedSparse
textured_sparse mesh decimals levels texture = record {
  mesh = record { levels = levels; common = mesh.common; decimals = decimals };
  texture = record { levels = texture; common = mesh.texture_common };
}
