-- The refusals of an input for its length, its text and its mesh.
use Rattle.std.proofs.Common.{◌≡◌, ℕ, ◌<◌, ◌≤◌, Bool, true, false, cond, nat_lt, List, ◌++◌, length, Option, Some, None, arith, refl, ap, sym, ◌∙◌}
use Rattle.std.proofs.lemmas.Bool.Decides.{nat_tests}
use Rattle.subdiv_model.specs.Lists.{first_of}
use Rattle.subdiv_model.specs.ObjFault as reader
use Rattle.subdiv_model.specs.ObjMesh.{ObjMesh}
use Rattle.subdiv_model.specs.ReadObj.{read_obj_fault, read_obj_mesh}
use Rattle.subdiv_model.specs.MeshFault.{MeshFault, first_mesh_fault}
use Rattle.far_model.specs.Command.{Command, Reads, Stored, Makes, Streams, ReadCommand, MakeCommand}
use Rattle.subdiv_model.specs.Fault.{Fault, Usage, Read, Long, Obj, Mesh, TooLarge, Overflow, Limit, Place, Table, Differs, Controls, Write, Memory}
use Rattle.far_model.specs.Refusal.{Answer, answer_unless, refused}
use Rattle.subdiv_model.specs.Limits.{count_faults}
use Rattle.far_model.specs.Answer.{answer_of_bytes, answer_of_checked, answer_of_command, answer_of_made, answer_of_read, answer_of_stored_text, byte_limit, command_faults, command_text, made_faults, made_mesh, made_text, unless_long}
use Rattle.mesh_answers.specs.Refusals.{IsFound, refusal_of_mesh}
use Rattle.mesh_answers.proofs.TextLemmas.{checked-refusal}
use Rattle.far_engine.specs.Input.{ReadsWhole}
use Rattle.far_engine.specs.Outcome.{IsAnswered}

-- without a fault an answer has its text
unless-text : (fault : Option Fault) (text : List ℕ) → (answer_unless fault text).refusal ≡ None → (answer_unless fault text).text ≡ text
unless-text None text h = refl
unless-text (Some fault) text h = absurd (cc)

-- without a fault a mesh has its text
checked-text : (command : ReadCommand) (fault : Option MeshFault) (mesh : ObjMesh) → (answer_of_checked command fault mesh).refusal ≡ None →
    (answer_of_checked command fault mesh).text ≡ command_text command mesh
checked-text command None mesh h = unless-text (first_of (count_faults mesh ++ command_faults command mesh)) (command_text command mesh) h
checked-text command (Some fault) mesh h = absurd (cc)

pub made-text : (command : MakeCommand) → (answer_of_made command).refusal ≡ None → (answer_of_made command).text ≡ made_text command
made-text command h = unless-text (first_of (count_faults (made_mesh command) ++ made_faults command)) (made_text command) h

within : (n m : ℕ) → n ≤ m → nat_lt m n ≡ false
within n m h = grind (arith, nat_tests)

beyond : (n m : ℕ) → m < n → nat_lt m n ≡ true
beyond n m h = grind (arith, nat_tests)

-- an input that is too long is refused for its length, and any other has its answer
module _ (answer : List ℕ → Answer) (bytes : List ℕ) where
  by-length : (long : Bool) → nat_lt byte_limit (length bytes) ≡ long → unless_long answer bytes ≡ cond long (refused Long) (answer bytes)
  by-length long is = ap (λ b. cond b (refused Long) (answer bytes)) is

  answer-long : byte_limit < length bytes → unless_long answer bytes ≡ refused Long
  answer-long long = by-length true (beyond (length bytes) byte_limit long)

  pub answer-short : length bytes ≤ byte_limit → unless_long answer bytes ≡ answer bytes
  answer-short short = by-length false (within (length bytes) byte_limit short)

-- the answer, for any command that reads the input
pub long-refusal : (command : Command) (bytes : List ℕ) → ReadsWhole command → byte_limit < length bytes → (answer_of_command command bytes).refusal ≡ Some Long
long-refusal (Reads command) bytes whole long =
    ap (λ (a : Answer). a.refusal) (answer-long (λ text. answer_of_read command (read_obj_fault text 0) (read_obj_mesh text 0)) bytes long)
long-refusal (Stored command) bytes whole long = ap (λ (a : Answer). a.refusal) (answer-long (answer_of_stored_text command) bytes long)
long-refusal (Makes command) bytes whole long = absurd whole
long-refusal (Streams command) bytes whole long = absurd whole

module _ (command : ReadCommand) (bytes : List ℕ) where
  module _ (short : length bytes ≤ byte_limit) where
    -- an input is refused for the fault of its text
    by-text : (fault : Option reader.ObjFault) → read_obj_fault bytes 0 ≡ fault → answer_of_bytes command bytes ≡ answer_of_read command fault (read_obj_mesh bytes 0)
    by-text fault is =
        answer-short (λ text. answer_of_read command (read_obj_fault text 0) (read_obj_mesh text 0)) bytes short
        ∙ ap (λ f. answer_of_read command f (read_obj_mesh bytes 0)) is

    pub text-refusal : (fault : reader.ObjFault) → read_obj_fault bytes 0 ≡ Some fault → (answer_of_bytes command bytes).refusal ≡ Some (Obj fault)
    text-refusal fault is = ap (λ (a : Answer). a.refusal) (by-text (Some fault) is)

    -- without a fault of its text, an input is refused as its mesh is
    module _ (good : read_obj_fault bytes 0 ≡ None) where
      pub mesh-refusal : (answer_of_bytes command bytes).refusal ≡ refusal_of_mesh command (read_obj_mesh bytes 0)
      mesh-refusal =
          let mesh = read_obj_mesh bytes 0 in
          ap (λ (a : Answer). a.refusal) (by-text None good) ∙ checked-refusal command (first_mesh_fault (length mesh.points) mesh.faces) mesh

      pub mesh-text : (answer_of_bytes command bytes).refusal ≡ None → (answer_of_bytes command bytes).text ≡ command_text command (read_obj_mesh bytes 0)
      mesh-text none =
          let mesh = read_obj_mesh bytes 0 in
          let same = by-text None good in
          ap (λ (a : Answer). a.text) same ∙ checked-text command (first_mesh_fault (length mesh.points) mesh.faces) mesh (ap (λ (a : Answer). a.refusal) (sym same) ∙ none)

-- a fault that was found is the answer
pub found-answers : (fault : Fault) (refusal : Option Fault) → IsFound fault refusal → IsAnswered (Some fault) refusal
found-answers Memory refusal found = tt
found-answers (Obj fault) refusal found = found
found-answers (Mesh fault) refusal found = found
found-answers (TooLarge counted) refusal found = found
found-answers (Overflow track level kind) refusal found = found
found-answers (Limit cause) refusal found = found
found-answers (Place fault) refusal found = found
found-answers (Table fault) refusal found = found
found-answers (Differs row) refusal found = found
found-answers (Controls count) refusal found = found
found-answers (Usage word) refusal found = absurd found
found-answers Read refusal found = absurd found
found-answers Long refusal found = absurd found
found-answers Write refusal found = absurd found
