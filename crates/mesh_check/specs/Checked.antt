-- The result of a check of a mesh.
use Rattle.std.specs.Prelude.{◌≡◌, true, Some, None, length, replicate}
use Rattle.subdiv_model.specs.MeshFault.{first_mesh_fault}
use Rattle.subdiv_model.specs.ObjMesh.{ObjMesh}
use Rattle.subdiv_model.specs.Lists.{first_of}
use Rattle.subdiv_model.specs.Base.{base_level}
use Rattle.subdiv_model.specs.Limits.{count_faults}
use Rattle.subdiv_model.specs.Fault as run
use Rattle.level_topology.specs.Topology.{Topology}
use Rattle.level_topology.specs.CountedText.{counted_of}
use Rattle.mesh_check.specs.View.{mesh_fault_of}
use Rattle.mesh_check.specs.declared.fault.CheckFault.{CheckFault}
use Rattle.mesh_check.specs.declared.fault.CheckFault.TheVariants.{Mesh, TooLarge, Memory}

-- the mesh is a manifold, no count of it exceeds its limit, and this is its level 0 with every point complete
pub record IsAccepted (mesh : ObjMesh) (level : Topology) : Type 0 where
  pub manifold : first_mesh_fault (length mesh.points) mesh.faces ≡ None
  pub small : first_of (count_faults mesh) ≡ None
  pub level_is : level.level ≡ base_level mesh
  pub complete : level.complete ≡ replicate (length mesh.points) true

-- the mesh is a manifold, and this is the first count that exceeds its limit
pub record IsTooLarge (mesh : ObjMesh) (counted : run.Counted) : Type 0 where
  pub manifold : first_mesh_fault (length mesh.points) mesh.faces ≡ None
  pub named : first_of (count_faults mesh) ≡ Some (run.TooLarge counted)

-- the fault is the first one of the mesh, or else the first count that exceeds its limit; memory may run out at any mesh
abbrev pub IsRefused : ObjMesh → CheckFault → Type 0
IsRefused mesh (Mesh fault) = first_mesh_fault (length mesh.points) mesh.faces ≡ Some (mesh_fault_of fault)
IsRefused mesh (TooLarge counted) = IsTooLarge mesh (counted_of counted)
IsRefused mesh Memory = Unit {0}
