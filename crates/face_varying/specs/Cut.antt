-- The conditions and the result of the cut of a texture channel. Source: this library.
use Rattle.std.specs.Prelude.{ℕ, ◌≡◌, Bool, true, List, length, map, replicate}
use Rattle.std.specs.List.{range_with_len}
use Rattle.subdiv_model.specs.ObjMesh.{ObjMesh}
use Rattle.subdiv_model.specs.Cut.{SeamMode, channel_points, channel_values, cut_level, cut_polygons, stays_sharp}
use Rattle.raw_mesh.specs.Laws.{IsWithin}
use Rattle.raw_mesh.specs.View.{texture_of}
use Rattle.level_topology.specs.Topology.{Topology}
use Rattle.mesh_check.specs.Checked.{IsAccepted}
use Rattle.ratio128.specs.declared.point.Point2.{Point2}
use Rattle.face_varying.specs.Corners.{apart_marks, corner_numbers}
use Rattle.face_varying.specs.View.{mode_of}
use Rattle.face_varying.specs.declared.mode.SeamMode as declared

-- an accepted mesh with texture, and its level 0
pub record IsCuttable (mesh : ObjMesh) (base : Topology) : Type 0 where
  pub within : IsWithin mesh
  pub textured : mesh.has_texture ≡ true
  pub accepted : IsAccepted mesh base

-- a claim about every mesh with this level 0, these edges apart, these corner numbers and this number of channel points
abbrev pub ForEachMesh : Topology → List Bool → List ℕ → ℕ → (ObjMesh → Type 0) → Type 0
ForEachMesh base apart numbers points Says =
    (mesh : ObjMesh) → IsCuttable mesh base → apart ≡ apart_marks mesh → numbers ≡ corner_numbers mesh → points ≡ length (channel_points mesh)
    → Says mesh

-- the mode keeps exactly the marked channel points sharp
abbrev pub AreKeptPoints : declared.SeamMode → ObjMesh → List Bool → Type 0
AreKeptPoints mode mesh kept =
    kept ≡ map (stays_sharp (mode_of mode) (cut_polygons mesh (channel_points mesh))) (range_with_len 0 (length (channel_points mesh)))

-- a channel in the terms of contracts: its level 0 and its values
pub record CutChannel : Type 0 where
  pub level : Topology
  pub points : List Point2

-- level 0 of the cut mesh with every point complete, and the texture value of each of its points
pub record IsCut (mode : SeamMode) (mesh : ObjMesh) (channel : CutChannel) : Type 0 where
  pub level_is : channel.level.level ≡ cut_level mode mesh
  pub complete : channel.level.complete ≡ replicate (length (channel_points mesh)) true
  pub values : map texture_of channel.points ≡ channel_values mesh
