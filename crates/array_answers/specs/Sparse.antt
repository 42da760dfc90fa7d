-- The sparse levels of a mesh in arrays, and the faults for which it has none.
use Rattle.std.specs.Prelude.{ℕ, zero, suc, ◌≡◌, ◌≤◌, ◌⊎◌, nat_le, length, Option, Some, None, option_map, Result, MatchResult, if◌then◌else◌}
use Rattle.std.specs.List.{All}
use Rattle.subdiv_model.specs.ObjMesh.{ObjMesh}
use Rattle.far_model.specs.Command.{Select, FeatureFaces, AllFaces, SparseOptions}
use Rattle.mesh_answers.specs.SparseLevels.{ArePointsLevels, sparse_position_faults}
use Rattle.mesh_arrays.specs.Arrays.{mesh_of_arrays}
use Rattle.mesh_arrays.specs.Faults.{IsMeshOf}
use Rattle.mesh_arrays.specs.declared.arrays.MeshArrays.{MeshArrays}
use Rattle.mesh_arrays.specs.SparsePlaces.{CanLevelBePut}
use Rattle.array_answers.specs.declared.record.FaultRecord.{FaultRecord}
use Rattle.array_answers.specs.Refused.{AreNoMesh, IsRefusedBy}
use Rattle.array_answers.specs.Rows.{bad_request}
use Rattle.array_answers.specs.declared.sparse.SparseArrays.{SparseArrays}
use Rattle.array_answers.specs.declared.sparse.SparseRequest.{SparseRequest}

-- the faces to refine, by their number
abbrev pub select_of_number : ℕ → Option Select
select_of_number zero = Some FeatureFaces
select_of_number (suc zero) = Some AllFaces
select_of_number (suc (suc number)) = None

-- the options of `sparse`, without texture and decimals
abbrev pub sparse_options : ℕ → Select → SparseOptions
sparse_options depth select = record { depth = depth; select = select; decimals = None; uv = None }

-- the options of a request, if its numbers are in their ranges
abbrev pub sparse_asked : SparseRequest → Option SparseOptions
sparse_asked request = if nat_le request.depth 10 then option_map (sparse_options request.depth) (select_of_number request.select) else None

-- The sparse levels of a mesh that is not refused, over its common denominator. `ArePointsLevels` also gives the own denominator of each
-- point: that of its row in the table of the whole level.
pub record AreSparseOf (options : SparseOptions) (mesh : ObjMesh) (found : SparseArrays) : Type 0 where
  pub common : found.common ≡ mesh.common
  pub levels : ArePointsLevels options mesh found.levels.items
  pub few : length found.levels.items ≤ 11
  pub put : All (CanLevelBePut found.common) found.levels.items

-- the arrays are a mesh, and these are its sparse levels
pub record AreSparseIn (options : SparseOptions) (arrays : MeshArrays) (found : SparseArrays) : Type 0 where
  pub good : IsMeshOf arrays (mesh_of_arrays arrays)
  pub are : AreSparseOf options (mesh_of_arrays arrays) found

-- the arrays are a mesh, and these are the sparse levels that the request asks for
pub record AreSparseAsked (request : SparseRequest) (arrays : MeshArrays) (found : SparseArrays) : Type 0 where
  pub options : SparseOptions
  pub asked : sparse_asked request ≡ Some options
  pub are : AreSparseIn options arrays found

-- the record of refused arrays: a number of the request comes first, then the arrays, then the mesh
abbrev pub IsSparseRefused : Option SparseOptions → MeshArrays → FaultRecord → Type 0
IsSparseRefused None arrays found = found ≡ bad_request
IsSparseRefused (Some options) arrays found =
    AreNoMesh arrays found
    ⊎ (IsMeshOf arrays (mesh_of_arrays arrays) × IsRefusedBy (sparse_position_faults options (mesh_of_arrays arrays)) (mesh_of_arrays arrays) found)

-- the levels, or the record of the first fault
abbrev pub AreSparseFound : SparseRequest → MeshArrays → Result SparseArrays FaultRecord → Type 0
AreSparseFound request arrays result = MatchResult result (AreSparseAsked request arrays) (IsSparseRefused (sparse_asked request) arrays)
