-- The faults of a check in the terms of the definitions.
use Rattle.std.specs.Prelude.{Option, Some, None}
use Rattle.subdiv_model.specs.MeshFault as model
use Rattle.subdiv_model.specs.Fault as run
use Rattle.level_topology.specs.CountedText.{counted_of}
use Rattle.mesh_check.specs.declared.fault.MeshFault.{MeshFault}
use Rattle.mesh_check.specs.declared.fault.MeshFault.TheVariants as mesh
use Rattle.mesh_check.specs.declared.fault.CheckFault.{CheckFault}
use Rattle.mesh_check.specs.declared.fault.CheckFault.TheVariants as check

abbrev pub mesh_fault_of : MeshFault → model.MeshFault
mesh_fault_of (mesh.FaceTooSmall face) = model.FaceTooSmall face
mesh_fault_of (mesh.RepeatedVertex face) = model.RepeatedVertex face
mesh_fault_of (mesh.NonManifoldEdge a b) = model.NonManifoldEdge a b
mesh_fault_of (mesh.WindingClash a b) = model.WindingClash a b
mesh_fault_of (mesh.SplitVertex v) = model.SplitVertex v

-- the fault that is reported, if there is one
abbrev pub named : Option MeshFault → Option model.MeshFault
named None = None
named (Some fault) = Some (mesh_fault_of fault)

abbrev pub check_fault_of : CheckFault → run.Fault
check_fault_of (check.Mesh fault) = run.Mesh (mesh_fault_of fault)
check_fault_of (check.TooLarge counted) = run.TooLarge (counted_of counted)
check_fault_of check.Memory = run.Memory
