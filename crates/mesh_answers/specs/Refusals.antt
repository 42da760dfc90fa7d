-- The refusals of a mesh.
-- Source: this profile.
use Rattle.std.specs.Prelude.{◌≡◌, List, ◌++◌, length, Option, Some, None, Result, MatchResult}
use Rattle.subdiv_model.specs.Lists.{first_of}
use Rattle.subdiv_model.specs.MeshFault.{MeshFault, first_mesh_fault}
use Rattle.subdiv_model.specs.ObjMesh.{ObjMesh}
use Rattle.far_model.specs.Command.{ReadCommand, MakeCommand}
use Rattle.subdiv_model.specs.Fault.{Fault, Obj, Mesh, TooLarge, Overflow, Limit, Place, Table, Differs, Controls, Memory}
use Rattle.subdiv_model.specs.Limits.{count_faults}
use Rattle.far_model.specs.Answer.{answer_of_made, command_faults}
use Rattle.far_fault.specs.View.{fault_of}
use Rattle.far_fault.specs.declared.fault.FarFault.{FarFault}

-- the fault of the mesh, or else this refusal
abbrev pub refusal_unless : Option MeshFault → Option Fault → Option Fault
refusal_unless (Some fault) refusal = Some (Mesh fault)
refusal_unless None refusal = refusal

-- the fault of the mesh, or else the first fault of its counts and of this list
abbrev pub refusal_by : List Fault → ObjMesh → Option Fault
refusal_by faults mesh = refusal_unless (first_mesh_fault (length mesh.points) mesh.faces) (first_of (count_faults mesh ++ faults))

-- the refusal by a command of a mesh that it read
abbrev pub refusal_of_mesh : ReadCommand → ObjMesh → Option Fault
refusal_of_mesh command mesh = refusal_by (command_faults command mesh) mesh

-- the refusal by a command of the mesh that it makes
abbrev pub refusal_of_made : MakeCommand → Option Fault
refusal_of_made command = (answer_of_made command).refusal

-- the fault is the refusal of the mesh in the definitions; memory may run out at any mesh
abbrev pub IsFound : Fault → Option Fault → Type 0
IsFound Memory refusal = Unit {0}
IsFound (Obj fault) refusal = refusal ≡ Some (Obj fault)
IsFound (Mesh fault) refusal = refusal ≡ Some (Mesh fault)
IsFound (TooLarge counted) refusal = refusal ≡ Some (TooLarge counted)
IsFound (Overflow track level kind) refusal = refusal ≡ Some (Overflow track level kind)
IsFound (Limit cause) refusal = refusal ≡ Some (Limit cause)
IsFound (Place fault) refusal = refusal ≡ Some (Place fault)
IsFound (Table fault) refusal = refusal ≡ Some (Table fault)
IsFound (Differs row) refusal = refusal ≡ Some (Differs row)
IsFound (Controls count) refusal = refusal ≡ Some (Controls count)
IsFound other refusal = ⊥

-- what was asked for, or the refusal
abbrev pub IsFoundOr : {T : Type 0} → (T → Type 0) → Option Fault → Result T FarFault → Type 0
IsFoundOr made refusal result = MatchResult result made (λ fault. IsFound (fault_of fault) refusal)
