-- The faults of a mesh in arrays.
use Rattle.std.specs.Prelude.{◌≡◌, List, length, map}
use Rattle.subdiv_model.specs.ObjMesh.{ObjMesh}
use Rattle.mesh_check.specs.declared.fault.MeshFault.{MeshFault}
use Rattle.mesh_check.specs.View.{mesh_fault_of}
use Rattle.mesh_check.specs.Listed.{listed_faults}
use Rattle.mesh_arrays.specs.Arrays.{mesh_of_arrays}
use Rattle.mesh_arrays.specs.Faults.{IsMeshOf}
use Rattle.mesh_arrays.specs.declared.arrays.MeshArrays.{MeshArrays}

-- these are all faults of the mesh in their order
abbrev pub AreListed : ObjMesh → List MeshFault → Type 0
AreListed mesh faults = map mesh_fault_of faults ≡ listed_faults (length mesh.points) mesh.faces

-- the arrays are a mesh, and these are all its faults in their order
pub record AreFaultsOf (arrays : MeshArrays) (faults : List MeshFault) : Type 0 where
  pub good : IsMeshOf arrays (mesh_of_arrays arrays)
  pub listed : AreListed (mesh_of_arrays arrays) faults
