-- The refusals of an OBJ text by the command for the table of its mesh.
use Rattle.std.proofs.Common.{◌≡◌, ℕ, List, ◌++◌, length, Option, Some, None, ap, sym, refl, ◌∙◌}
use Rattle.subdiv_model.specs.Lists.{first_of}
use Rattle.subdiv_model.specs.Fault.{Fault, Usage, Read, Long, Obj, Mesh, TooLarge, Overflow, Limit, Place, Table, Differs, Controls, Write, Memory}
use Rattle.subdiv_model.specs.Limits.{count_faults}
use Rattle.subdiv_model.specs.MeshFault.{MeshFault, first_mesh_fault}
use Rattle.subdiv_model.specs.ObjMesh.{ObjMesh}
use Rattle.subdiv_model.specs.ReadObj.{obj_lines, mesh_of_lines}
use Rattle.far_model.specs.Answer.{answer_of_checked, answer_of_read, command_faults, command_text, composition_refusal}
use Rattle.far_model.specs.Command.{ReadCommand, Stencils}
use Rattle.far_model.specs.Refusal.{answer_unless}
use Rattle.mesh_answers.specs.MeshText.{IsMeshText, IsTextFault}
use Rattle.mesh_answers.specs.Refusals.{IsFound, refusal_of_mesh, refusal_unless}

-- the refusal of an answer is its fault
pub unless-refusal : (fault : Option Fault) (text : List ℕ) → (answer_unless fault text).refusal ≡ fault
unless-refusal (Some fault) text = refl
unless-refusal None text = refl

-- a mesh is refused by a command as its faults say
pub checked-refusal : (command : ReadCommand) (fault : Option MeshFault) (mesh : ObjMesh) →
    (answer_of_checked command fault mesh).refusal ≡ refusal_unless fault (first_of (count_faults mesh ++ command_faults command mesh))
checked-refusal command (Some fault) mesh = refl
checked-refusal command None mesh = unless-refusal (first_of (count_faults mesh ++ command_faults command mesh)) (command_text command mesh)

-- a text without fault is refused as its mesh is
pub composition-refusal : (depth scale : ℕ) (bytes : List ℕ) (mesh : ObjMesh) → IsMeshText bytes scale mesh
    → composition_refusal depth scale (obj_lines bytes) ≡ refusal_of_mesh (Stencils depth) mesh
composition-refusal depth scale bytes mesh is =
    let read = mesh_of_lines (obj_lines bytes) scale in
    ap (λ fault. (answer_of_read (Stencils depth) fault read).refusal) is.good
    ∙ checked-refusal (Stencils depth) (first_mesh_fault (length read.points) read.faces) read
    ∙ ap (refusal_of_mesh (Stencils depth)) (sym is.mesh_is)

-- a text with a fault is refused for it
pub text-fault-found : (depth scale : ℕ) (bytes : List ℕ) (fault : Fault) → IsTextFault bytes scale fault → IsFound fault (composition_refusal depth scale (obj_lines bytes))
text-fault-found depth scale bytes (Obj fault) is = ap (λ found. (answer_of_read (Stencils depth) found (mesh_of_lines (obj_lines bytes) scale)).refusal) is
text-fault-found depth scale bytes Memory is = tt
text-fault-found depth scale bytes (Usage word) is = absurd is
text-fault-found depth scale bytes Read is = absurd is
text-fault-found depth scale bytes Long is = absurd is
text-fault-found depth scale bytes (Mesh fault) is = absurd is
text-fault-found depth scale bytes (TooLarge counted) is = absurd is
text-fault-found depth scale bytes (Overflow track level kind) is = absurd is
text-fault-found depth scale bytes (Limit cause) is = absurd is
text-fault-found depth scale bytes (Place fault) is = absurd is
text-fault-found depth scale bytes (Table fault) is = absurd is
text-fault-found depth scale bytes (Differs row) is = absurd is
text-fault-found depth scale bytes (Controls count) is = absurd is
text-fault-found depth scale bytes Write is = absurd is
