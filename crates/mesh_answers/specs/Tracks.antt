-- The positions of a mesh and its texture, before refinement and at a depth.
use Rattle.std.specs.Prelude.{ℕ, ◌≡◌, true, false, List, [], Option, Some, None, map}
use Rattle.std.specs.List.{All, AllZip}
use Rattle.subdiv_model.specs.Lists.{first_of}
use Rattle.subdiv_model.specs.Base.{base_level}
use Rattle.subdiv_model.specs.Child.{refined_level}
use Rattle.subdiv_model.specs.Cut.{cut_level, channel_values}
use Rattle.far_model.specs.Command.{Uv, RefineOptions}
use Rattle.subdiv_model.specs.ObjMesh.{ObjMesh}
use Rattle.subdiv_model.specs.Fault.{Fault, Positions, Texture}
use Rattle.subdiv_model.specs.Channel.{Asked, channel_faults}
use Rattle.far_model.specs.Answer.{points_after, texture_after, positions_of, texture_of, seams_of, asked_of}
use Rattle.level_topology.specs.Topology.{Topology}
use Rattle.ratio128.specs.declared.valued.Valued.{Valued}
use Rattle.ratio128.specs.declared.point.Point3.{Point3}
use Rattle.ratio128.specs.declared.point.Point2.{Point2}
use Rattle.raw_mesh.specs.View.{texture_of as value_of}
use Rattle.channel_refine.specs.declared.refine.RefinedChannel.{RefinedChannel}
use Rattle.far_text.specs.Points.{points_of, CanBeWritten, IsSamePoint, HasDenominators}
use Rattle.far_text.specs.Texture.{texture_points_of, CanTextureBeWritten, IsSameTexturePoint, HasTextureDenominators}
use Rattle.far_text.specs.declared.mesh.RefinedTexture.{RefinedTexture}
use Rattle.mesh_answers.specs.Refusals.{IsFound}
use Rattle.mesh_answers.specs.Levels.{IsSmallManifold}
use Rattle.mesh_answers.specs.declared.tracks.BaseTexture.{BaseTexture}
use Rattle.mesh_answers.specs.declared.tracks.BaseTracks.{BaseTracks}

-- the channel of the texture of a mesh with its values, or nothing for a mesh without texture
abbrev pub IsBaseTexture : Uv → ObjMesh → Option BaseTexture → Type 0
IsBaseTexture uv mesh None = mesh.has_texture ≡ false
IsBaseTexture uv mesh (Some texture) =
    (mesh.has_texture ≡ true) × (texture.base ≡ texture_of mesh uv) × (map value_of texture.values.items ≡ channel_values mesh)

-- the channels of a mesh none of whose levels up to a depth has too many faces
pub record AreBaseTracks (uv : Uv) (depth : ℕ) (mesh : ObjMesh) (tracks : BaseTracks) : Type 0 where
  pub fine : IsSmallManifold depth mesh
  pub positions : tracks.positions ≡ positions_of mesh
  pub texture : IsBaseTexture uv mesh tracks.texture

-- The positions have no fault that is asked for. This is the level of the mesh at a depth, and these are its points there, over the
-- common denominator.
pub record AreRefined (asked : Asked) (mesh : ObjMesh) (depth : ℕ) (level : Topology) (values : List (Valued Point3)) : Type 0 where
  pub fine : channel_faults asked (positions_of mesh) Positions depth ≡ []
  pub level_is : level.level ≡ refined_level (base_level mesh) depth
  pub same : AllZip IsSamePoint (points_after mesh depth) (points_of mesh.common values)
  pub positive : All HasDenominators (points_after mesh depth)
  pub written : All (CanBeWritten mesh.common) values

-- The texture has no fault that is asked for. This is the level of the cut mesh at a depth, and these are its values there, over the
-- common denominator of the texture.
pub record IsTextureRefined (asked : Asked) (uv : Uv) (mesh : ObjMesh) (depth : ℕ) (level : Topology) (values : List (Valued Point2)) : Type 0 where
  pub fine : channel_faults asked (texture_of mesh uv) Texture depth ≡ []
  pub level_is : level.level ≡ refined_level (cut_level (seams_of uv) mesh) depth
  pub same : AllZip IsSameTexturePoint (texture_after mesh uv depth) (texture_points_of mesh.texture_common values)
  pub positive : All HasTextureDenominators (texture_after mesh uv depth)
  pub written : All (CanTextureBeWritten mesh.texture_common) values

-- the refined positions that the options ask for
abbrev pub ArePositions : RefineOptions → ObjMesh → RefinedChannel Point3 → Type 0
ArePositions options mesh refined = AreRefined (asked_of options.by) mesh options.depth refined.level refined.values.items

-- the faults of the positions, in their order
abbrev pub position_faults : RefineOptions → ObjMesh → List Fault
position_faults options mesh = channel_faults (asked_of options.by) (positions_of mesh) Positions options.depth

-- the fault is the first of the positions, or memory ran out
abbrev pub IsPositionFault : RefineOptions → ObjMesh → Fault → Type 0
IsPositionFault options mesh fault = IsFound fault (first_of (position_faults options mesh))

-- the refined texture that the options ask for, if the mesh has one
abbrev pub IsTextureOf : RefineOptions → ObjMesh → Option RefinedTexture → Type 0
IsTextureOf options mesh None = mesh.has_texture ≡ false
IsTextureOf options mesh (Some texture) =
    (mesh.has_texture ≡ true) × (texture.common ≡ mesh.texture_common)
    × IsTextureRefined (asked_of options.by) options.uv mesh options.depth texture.level texture.values.items

-- the faults of the texture, in their order
abbrev pub texture_faults : RefineOptions → ObjMesh → List Fault
texture_faults options mesh = channel_faults (asked_of options.by) (texture_of mesh options.uv) Texture options.depth

-- the mesh has texture, and the fault is the first of it, or memory ran out
abbrev pub IsTextureFault : RefineOptions → ObjMesh → Fault → Type 0
IsTextureFault options mesh fault = (mesh.has_texture ≡ true) × IsFound fault (first_of (texture_faults options mesh))
