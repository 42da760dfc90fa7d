-- The mesh of an OBJ text, or its fault.
use Rattle.std.specs.Prelude.{ℕ, ◌≡◌, List, Some, None}
use Rattle.subdiv_model.specs.ObjMesh.{ObjMesh}
use Rattle.subdiv_model.specs.ReadObj.{read_obj_fault, read_obj_mesh}
use Rattle.subdiv_model.specs.Fault.{Fault, Obj, Memory}

-- the text has no fault, and this is its mesh; a power of ten divides the common denominator of its points
pub record IsMeshText (bytes : List ℕ) (scale : ℕ) (mesh : ObjMesh) : Type 0 where
  pub good : read_obj_fault bytes scale ≡ None
  pub mesh_is : mesh ≡ read_obj_mesh bytes scale

-- the fault is that of the text, or memory ran out
abbrev pub IsTextFault : List ℕ → ℕ → Fault → Type 0
IsTextFault bytes scale (Obj fault) = read_obj_fault bytes scale ≡ Some fault
IsTextFault bytes scale Memory = Unit {0}
IsTextFault bytes scale other = ⊥
