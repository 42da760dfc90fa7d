-- The mesh of a source or its fault, and the reply that a command finds before it writes.
use Rattle.std.specs.Prelude.{ℕ, ◌≡◌, ◌≢◌, ◌≤◌, List, length, Some, None, Result, Ok, Err, IsTrue, MatchResult}
use Rattle.far_io.specs.Bytes.{Rose, Took, TookPrefix, TookMore, Added, AddedPrefix, IsDry}
use Rattle.far_io.specs.declared.sink.Sink.{Ghosts as Sink}
use Rattle.far_io.specs.declared.source.Source.{Ghosts}
use Rattle.far_io.specs.declared.source.InputFault.{InputFault}
use Rattle.far_io.specs.declared.source.InputFault.TheVariants.{Read as ReadFailed, Long as TooLong, Memory as NoMemory}
use Rattle.far_model.specs.Command.{Command, Reads, Stored, Makes, Streams}
use Rattle.subdiv_model.specs.ObjMesh.{ObjMesh}
use Rattle.subdiv_model.specs.Fault as model
use Rattle.subdiv_model.specs.Fault.{Fault, Usage, Read, Long, Obj, Write, Memory}
use Rattle.far_model.specs.Answer.{answer_of_command, byte_limit}
use Rattle.far_text.specs.Reply.{CanPut, reply_text}
use Rattle.far_text.specs.declared.reply.Reply.{Reply}
use Rattle.ratio128.specs.StepsTaken.{StepsTaken}
use Rattle.far_fault.specs.View.{fault_of}
use Rattle.far_fault.specs.declared.fault.FarFault.{FarFault}
use Rattle.far_fault.specs.declared.fault.FarFault.TheVariants as answered
use Rattle.mesh_answers.specs.MeshText.{IsMeshText}
use Rattle.far_engine.specs.Outcome.{IsAnswered, is_after_reading}
use Rattle.far_engine.specs.StepCounts.{least_steps, step_limit}

-- the fault of a run for a source that could not be read to its end
abbrev pub input_fault_of : InputFault → Fault
input_fault_of ReadFailed = model.Read
input_fault_of TooLong = model.Long
input_fault_of NoMemory = model.Memory

-- the source was read to its end, and its bytes are the text of this mesh
pub record IsMeshOf {S : Type 0} (source : Ghosts S) (s s' : S) (mesh : ObjMesh) : Type 0 where
  pub bytes : List ℕ
  pub took : Took (source.left s) (source.left s') bytes
  pub dry : IsDry (source.left s')
  pub short : length bytes ≤ byte_limit
  pub text : IsMeshText bytes 0 mesh
  pub later : source.faults s ≤ source.faults s'

-- a command reads its whole input before it answers
abbrev pub ReadsWhole : Command → Type 0
ReadsWhole (Reads command) = Unit {0}
ReadsWhole (Stored command) = Unit {0}
ReadsWhole (Makes command) = ⊥
ReadsWhole (Streams command) = ⊥

-- a command has no reply for this fault, which is neither Usage nor Write
pub record IsRefused {S : Type 0} (source : Ghosts S) (command : Command) (s s' : S) (fault : Fault) : Type 0 where
  pub answer : (bytes : List ℕ) → source.left s ≡ Some bytes → IsAnswered (Some fault) (answer_of_command command bytes).refusal
  pub whole : IsTrue (is_after_reading (Some fault)) → IsDry (source.left s')
  pub not_usage : (word : ℕ) → fault ≢ Usage word
  pub not_write : fault ≢ Write
  pub read : fault ≡ Read → Rose (source.faults s) (source.faults s')
  pub long : fault ≡ Long → TookMore byte_limit (source.left s) (source.left s')
  pub taken : TookPrefix (source.left s) (source.left s')
  pub later : source.faults s ≤ source.faults s'

-- the input was read to its end, nothing of it is refused, and this is the reply
pub record IsReady {S : Type 0} (source : Ghosts S) (command : Command) (s s' : S) (reply : Reply) : Type 0 where
  pub good : (bytes : List ℕ) → source.left s ≡ Some bytes → (answer_of_command command bytes).refusal ≡ None
  pub says : (bytes : List ℕ) → source.left s ≡ Some bytes → reply_text reply ≡ (answer_of_command command bytes).text
  pub put : CanPut reply
  pub dry : IsDry (source.left s')
  pub taken : TookPrefix (source.left s) (source.left s')
  pub later : source.faults s ≤ source.faults s'

-- the reply of a command to a source, or the fault, within the bounds of steps for the bytes that came
pub record FindsReply {S : Type 0} (source : Ghosts S) (command : Command) (s s' : S) (result : Result Reply FarFault) (old new : ℕ) : Type 0 where
  pub reply : MatchResult result (λ reply. IsReady source command s s' reply) (λ fault. IsRefused source command s s' (fault_of fault))
  pub of_taken : (bytes : List ℕ) × Took (source.left s) (source.left s') bytes
      × StepsTaken result old new (least_steps command bytes) (step_limit command bytes)
  pub of_known : (bytes : List ℕ) → source.left s ≡ Some bytes
      → StepsTaken result old new (least_steps command bytes) (step_limit command bytes)

-- the reply was written into a sink; or this is the fault, and the sink was not called
pub record PutsFound {K : Type 0} (sink : Sink K) (found : Result Reply FarFault) (k k' : K) (result : Result (Unit {0}) FarFault) : Type 0 where
  pub refused : (fault : FarFault) → found ≡ Err fault → (result ≡ Err fault) × (k' ≡ k)
  pub written : (reply : Reply) → found ≡ Ok reply → result ≡ Ok tt → Added (sink.held k) (sink.held k') (reply_text reply)
  pub failed : (reply : Reply) (fault : FarFault) → found ≡ Ok reply → result ≡ Err fault
      → (fault ≡ answered.Write) × Rose (sink.faults k) (sink.faults k') × AddedPrefix (sink.held k) (sink.held k') (reply_text reply)
  pub later : sink.faults k ≤ sink.faults k'
  pub fixed : sink.fixed k' ≡ sink.fixed k
