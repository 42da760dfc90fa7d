-- If `refine` refuses nothing, its bytes and their mesh have no fault, and it writes the mesh.
use Rattle.std.proofs.Common.{◌≡◌, ℕ, Bool, true, false, ◌++◌, List, length, Option, Some, None, refl, ap, sym, subst, true≢false, ◌∙◌, if◌then◌else◌}
use Rattle.std.specs.Prelude.{is_some, nat_lt}
use Rattle.subdiv_model.specs.Fault.{Fault, Long}
use Rattle.subdiv_model.specs.Lists.{first_of}
use Rattle.subdiv_model.specs.MeshFault.{MeshFault, first_mesh_fault}
use Rattle.subdiv_model.specs.ObjFault.{ObjFault}
use Rattle.subdiv_model.specs.ObjMesh.{ObjMesh}
use Rattle.subdiv_model.specs.ReadObj.{read_obj_fault, read_obj_mesh}
use Rattle.subdiv_model.specs.Limits.{count_faults}
use Rattle.far_model.specs.Command.{ReadCommand}
use Rattle.far_model.specs.Refusal.{Answer, refused, answer_unless}
use Rattle.far_model.specs.Answer.{byte_limit, command_faults, command_text, answer_of_checked, answer_of_read, answer_of_bytes}

-- no refusal is some refusal
no-refusal : {X : Type 0} (fault : Fault) → Some fault ≡ None → X
no-refusal fault h = absurd (true≢false (ap is_some h))

unless-text : (fault : Option Fault) (text : List ℕ) → (answer_unless fault text).refusal ≡ None → (answer_unless fault text).text ≡ text
unless-text None text h = refl
unless-text (Some fault) text h = no-refusal fault h

-- the mesh has no fault, and the answer is what the command writes of it
pub record IsWritten (command : ReadCommand) (read : Option ObjFault) (checked : Option MeshFault) (mesh : ObjMesh) (answer : Answer) : Type 0 where
  pub read_well : read ≡ None
  pub is_mesh : checked ≡ None
  pub text : answer.text ≡ command_text command mesh

checked-written : (command : ReadCommand) (checked : Option MeshFault) (mesh : ObjMesh) → (answer_of_checked command checked mesh).refusal ≡ None
    → (checked ≡ None) × ((answer_of_checked command checked mesh).text ≡ command_text command mesh)
checked-written command None mesh h =
    (refl, unless-text (first_of (count_faults mesh ++ command_faults command mesh)) (command_text command mesh) h)
checked-written command (Some fault) mesh h = no-refusal _ h

read-written : (command : ReadCommand) (read : Option ObjFault) (mesh : ObjMesh) → (answer_of_read command read mesh).refusal ≡ None
    → IsWritten command read (first_mesh_fault (length mesh.points) mesh.faces) mesh (answer_of_read command read mesh)
read-written command None mesh h =
    let parts = checked-written command (first_mesh_fault (length mesh.points) mesh.faces) mesh h in
    record { read_well = refl; is_mesh = parts.0; text = parts.1 }
read-written command (Some fault) mesh h = no-refusal _ h

short-enough : (long : Bool) (answer : Answer) → (if long then refused Long else answer).refusal ≡ None → (if long then refused Long else answer) ≡ answer
short-enough true answer h = no-refusal Long h
short-enough false answer h = refl

-- the text that is written for bytes that are not refused
abbrev pub IsWrittenOf : ReadCommand → List ℕ → Type 0
IsWrittenOf command bytes =
    let mesh = read_obj_mesh bytes 0 in
    IsWritten command (read_obj_fault bytes 0) (first_mesh_fault (length mesh.points) mesh.faces) mesh (answer_of_bytes command bytes)

pub bytes-written : (command : ReadCommand) (bytes : List ℕ) → (answer_of_bytes command bytes).refusal ≡ None → IsWrittenOf command bytes
bytes-written command bytes h =
    let mesh = read_obj_mesh bytes 0 in
    let read = read_obj_fault bytes 0 in
    let checked = first_mesh_fault (length mesh.points) mesh.faces in
    let answer = answer_of_read command read mesh in
    let same = short-enough (nat_lt byte_limit (length bytes)) answer h in
    subst (IsWritten command read checked mesh) (sym same) (read-written command read mesh (ap (λ a. a.refusal) (sym same) ∙ h))
