-- The leaves of the places of a face of a mesh.
use Rattle.std.specs.Prelude.{ℕ, ◌≡◌, ◌+◌, List, [], ◌++◌, map, Option, None, option_map}
use Rattle.std.specs.List.{range_with_len}
use Rattle.subdiv_model.specs.Lists.{first_of}
use Rattle.subdiv_model.specs.Base.{base_level}
use Rattle.subdiv_model.specs.Fault.{Fault, Place, Positions}
use Rattle.subdiv_model.specs.Channel.{Sharpnesses}
use Rattle.subdiv_model.specs.Leaf.{Location, location_faults}
use Rattle.subdiv_model.specs.ObjMesh.{ObjMesh}
use Rattle.subdiv_model.specs.SparseFaults.{sparse_faults}
use Rattle.far_model.specs.Command.{MapOptions}
use Rattle.far_model.specs.Answer.{map_leaf, predicate_by, positions_of}
use Rattle.far_fault.specs.View.{place_fault_of}
use Rattle.far_fault.specs.declared.fault.PlaceFault.{PlaceFault}
use Rattle.patch_map.specs.declared.leaf.Leaf.{Leaf}
use Rattle.patch_map.specs.View.{location_of}
use Rattle.patch_map.specs.Map.{LevelMap}
use Rattle.patch_map.specs.Is.{IsMapOf}
use Rattle.mesh_answers.specs.SparseLevels.{IsWithinLimits}

-- the faults of the faces and of the sharpness of a mesh's sparse levels
abbrev pub map_level_faults : MapOptions → ObjMesh → List Fault
map_level_faults options mesh = sparse_faults Sharpnesses (positions_of mesh) (predicate_by options.select options.depth mesh) Positions options.depth

-- the first of these faults, or none
abbrev pub map_level_refusal : MapOptions → ObjMesh → Option Fault
map_level_refusal options mesh = first_of (map_level_faults options mesh)

-- a map of the sparse levels of a mesh that is within its limits; the levels have no fault
pub record IsLevelMap (options : MapOptions) (mesh : ObjMesh) (found : LevelMap) : Type 0 where
  pub mesh_is : IsWithinLimits mesh
  pub fine : map_level_faults options mesh ≡ []
  pub map_is : IsMapOf (base_level mesh) (predicate_by options.select options.depth mesh) options.depth found

-- the requested face has this fault, or it has places with the requested corner
pub record IsMapFor (options : MapOptions) (mesh : ObjMesh) (fault : Option PlaceFault) (found : LevelMap) : Type 0 where
  pub map_is : IsLevelMap options mesh found
  pub fault_is : option_map (λ place. Place (place_fault_of place)) fault ≡ first_of (location_faults (base_level mesh) options.face options.corner)

-- the map is that of the mesh's levels, and the face has places with the corner
abbrev pub CanFind : MapOptions → ObjMesh → LevelMap → Type 0
CanFind options mesh found = IsMapFor options mesh None found

-- the leaves of a row of the grid
abbrev pub row_leaves : MapOptions → ObjMesh → ℕ → List Location
row_leaves options mesh j = map (λ i. map_leaf options mesh (i, j)) (range_with_len 0 (options.grid + 1))

-- these are the leaves before, then those of a row of the grid
abbrev pub HasRowLeaves : MapOptions → ObjMesh → ℕ → List Leaf → List Leaf → Type 0
HasRowLeaves options mesh j before after = map location_of after ≡ map location_of before ++ row_leaves options mesh j

-- these are the leaves of the places of these pairs
abbrev pub AreLeavesAt : MapOptions → ObjMesh → List (ℕ × ℕ) → List Leaf → Type 0
AreLeavesAt options mesh pairs leaves = map location_of leaves ≡ map (map_leaf options mesh) pairs
