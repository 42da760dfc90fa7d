-- The effect of a run on its source and its sink, and of its report on the sink of errors. Their traits define the fields of a source and
-- a sink.
use Rattle.std.specs.Prelude.{ℕ, ◌≡◌, ◌≢◌, ◌≤◌, ◌↔◌, ◌⊎◌, List, [], Option, Some, None, IsTrue}
use Rattle.far_io.specs.Bytes.{Rose, Took, TookPrefix, TookMore, Added, AddedPrefix, IsDry}
use Rattle.far_io.specs.declared.source.Source.{Ghosts as Source}
use Rattle.far_io.specs.declared.sink.Sink.{Ghosts as Sink}
use Rattle.subdiv_model.specs.Level.{Level}
use Rattle.subdiv_model.specs.Manifold.{IsManifold}
use Rattle.subdiv_model.specs.Base.{base_level}
use Rattle.subdiv_model.specs.Child.{refined_level}
use Rattle.subdiv_model.specs.Cut.{SeamMode, cut_level}
use Rattle.subdiv_model.specs.ObjMesh.{ObjMesh}
use Rattle.far_model.specs.Words.{command_table, usage_of}
use Rattle.far_model.specs.Command.{Command, Reads, Stored, Makes, Streams, MakeCommand, command_of}
use Rattle.subdiv_model.specs.Fault.{Fault, Usage, Read, Long, Write, Memory, fault_line, outcome_status}
use Rattle.far_model.specs.Refusal.{Answer}
use Rattle.far_model.specs.Stream.{LineRule, answer_so_far, answer_of_all, answer_of_lines}
use Rattle.far_model.specs.Answer.{IsAcceptedMesh, answer_of_command, answer_of_made, byte_limit, rule_of}
use Rattle.far_engine.specs.Outcome.{IsAnswered, is_after_reading}
use Rattle.far_engine.specs.StepCounts.{RunSteps}

-- The facts about every command: its source and sink before and after, and its outcome.
pub record Ran {S K : Type 0} (source : Source S) (sink : Sink K) (s s' : S) (k k' : K) (outcome : Option Fault) : Type 0 where
  pub not_usage : (word : ℕ) → outcome ≢ Some (Usage word)
  -- Read and Write come only if the count of faults rose
  pub read : outcome ≡ Some Read → Rose (source.faults s) (source.faults s')
  pub write : outcome ≡ Some Write → Rose (sink.faults k) (sink.faults k')
  -- for any outcome, a prefix of the input was taken, text was appended, and no count fell
  pub taken : TookPrefix (source.left s) (source.left s')
  pub added : (text : List ℕ) × Added (sink.held k) (sink.held k') text
  pub source_later : source.faults s ≤ source.faults s'
  pub sink_later : sink.faults k ≤ sink.faults k'
  pub sink_fixed : sink.fixed k' ≡ sink.fixed k

-- The outcome is that of the whole answer, or Read, Write or Memory. Without a fault the whole text was appended, after Write a prefix of
-- it.
pub record AnswersWhole {K : Type 0} (sink : Sink K) (answer : Answer) (k k' : K) (outcome : Option Fault) : Type 0 where
  pub answered : IsAnswered outcome answer.refusal
  pub text : outcome ≡ None → Added (sink.held k) (sink.held k') answer.text
  pub prefix : outcome ≡ Some Write → AddedPrefix (sink.held k) (sink.held k') answer.text

-- A command that reads its whole input, then answers.
pub record RunsRead {S K : Type 0} (source : Source S) (sink : Sink K) (command : Command) (s s' : S) (k k' : K) (outcome : Option Fault) : Type 0 where
  pub ran : Ran source sink s s' k k' outcome
  -- the answer is the one that is defined for the bytes of the source
  pub answer : (bytes : List ℕ) → source.left s ≡ Some bytes → AnswersWhole sink (answer_of_command command bytes) k k' outcome
  -- if the outcome comes after reading, the input was read to its end; Long comes only if more bytes came
  pub whole : IsTrue (is_after_reading outcome) → IsDry (source.left s')
  pub long : outcome ≡ Some Long → TookMore byte_limit (source.left s) (source.left s')
  -- after any fault but Write the sink was not called
  pub kept : (fault : Fault) → outcome ≡ Some fault → fault ≢ Write → k' ≡ k

-- A command that makes its mesh and does not call the source.
pub record RunsMake {S K : Type 0} (source : Source S) (sink : Sink K) (command : MakeCommand) (s s' : S) (k k' : K) (outcome : Option Fault) : Type 0 where
  pub ran : Ran source sink s s' k k' outcome
  pub answer : AnswersWhole sink (answer_of_made command) k k' outcome
  pub unread : s' ≡ s
  pub not_read : outcome ≢ Some Read
  pub not_long : outcome ≢ Some Long
  pub kept : (fault : Fault) → outcome ≡ Some fault → fault ≢ Write → k' ≡ k

-- The outcome of an answer line by line: the first refusal or none, with the text before it. After Write a prefix of the text was
-- appended.
pub record AnswersLines {K : Type 0} (sink : Sink K) (answer : Answer) (k k' : K) (outcome : Option Fault) : Type 0 where
  pub answered : (outcome ≡ answer.refusal) ⊎ ((outcome ≡ Some Read) ⊎ ((outcome ≡ Some Write) ⊎ (outcome ≡ Some Memory)))
  pub text : outcome ≡ answer.refusal → Added (sink.held k) (sink.held k') answer.text
  pub prefix : outcome ≡ Some Write → AddedPrefix (sink.held k) (sink.held k') answer.text

-- A command that answers while it reads; each line adds its part.
pub record RunsStream {S K : Type 0} (source : Source S) (sink : Sink K) (rule : LineRule) (s s' : S) (k k' : K) (outcome : Option Fault) : Type 0 where
  pub ran : Ran source sink s s' k k' outcome
  pub answer : (bytes : List ℕ) → source.left s ≡ Some bytes → AnswersLines sink (answer_of_lines rule byte_limit bytes) k k' outcome
  pub whole : outcome ≡ None → IsDry (source.left s')
  pub long : outcome ≡ Some Long → TookMore byte_limit (source.left s) (source.left s')
  -- after Read the bytes that were taken show no refusal, and their answers were appended
  pub so_far : outcome ≡ Some Read → (bytes : List ℕ) × Took (source.left s) (source.left s') bytes
      × ((answer_so_far rule bytes).refusal ≡ None) × Added (sink.held k) (sink.held k') (answer_so_far rule bytes).text
  -- after Write a prefix of the answers to the taken bytes was appended; these answers are not empty
  pub prefix : outcome ≡ Some Write → (bytes : List ℕ) × Took (source.left s) (source.left s') bytes
      × ((answer_of_all rule bytes).text ≢ []) × AddedPrefix (sink.held k) (sink.held k') (answer_of_all rule bytes).text
  pub kept : outcome ≡ Some Memory → k' ≡ k

-- A command, by its kind.
abbrev pub RunsCommand : {S K : Type 0} → Source S → Sink K → Command → S → S → K → K → Option Fault → Type 0
RunsCommand source sink (Reads command) s s' k k' outcome = RunsRead source sink (Reads command) s s' k k' outcome
RunsCommand source sink (Stored command) s s' k k' outcome = RunsRead source sink (Stored command) s s' k k' outcome
RunsCommand source sink (Makes command) s s' k k' outcome = RunsMake source sink command s s' k k' outcome
RunsCommand source sink (Streams command) s s' k k' outcome = RunsStream source sink (rule_of command) s s' k k' outcome

-- every level of a mesh, from its level 0, is a manifold
abbrev pub AreManifolds : Level → Type 0
AreManifolds base = (n : ℕ) → IsManifold (refined_level base n).point_count (refined_level base n).polygons

-- all levels of a mesh and of its cut mesh are manifolds, for any sharpness of seams
pub record HasManifolds (mesh : ObjMesh) : Type 0 where
  pub levels : AreManifolds (base_level mesh)
  pub cut : (mode : SeamMode) → AreManifolds (cut_level mode mesh)

-- A run of words.
pub record Runs {S K : Type 0} (source : Source S) (sink : Sink K) (words : List (List ℕ)) (s s' : S) (k k' : K) (outcome : Option Fault) : Type 0 where
  -- Usage comes exactly if the words are not a command, and then nothing is called
  pub usage : (word : ℕ) → (outcome ≡ Some (Usage word)) ↔ (usage_of command_table words ≡ Some word)
  pub uncalled : (word : ℕ) → outcome ≡ Some (Usage word) → (s' ≡ s) × (k' ≡ k)
  -- else the command that the words spell runs
  pub command : usage_of command_table words ≡ None → RunsCommand source sink (command_of words) s s' k k' outcome
  -- for any outcome, all levels of a mesh that the command accepts are manifolds
  pub manifold : usage_of command_table words ≡ None → (bytes : List ℕ) (mesh : ObjMesh) → IsAcceptedMesh (command_of words) bytes mesh → HasManifolds mesh

-- The report of an outcome to a sink of errors: the line of the fault. It is a prefix of that line only if the count of faults rose.
-- Without a fault the sink is not called.
abbrev pub Reports : {E : Type 0} → Sink E → E → E → Option Fault → Type 0
Reports errors e e' None = e' ≡ e
Reports errors e e' (Some fault) =
    Added (errors.held e) (errors.held e') (fault_line fault)
    ⊎ (Rose (errors.faults e) (errors.faults e') × AddedPrefix (errors.held e) (errors.held e') (fault_line fault))

-- the status of an outcome, and its report to a sink of errors
pub record ReportsStatus {E : Type 0} (errors : Sink E) (e e' : E) (outcome : Option Fault) (returned : ℕ) : Type 0 where
  pub status : returned ≡ outcome_status outcome
  pub reports : Reports errors e e' outcome
  pub later : errors.faults e ≤ errors.faults e'
  pub fixed : errors.fixed e' ≡ errors.fixed e

-- A run of the program: its outcome, its steps, and the report of the outcome with the exit status.
pub record RunsProgram {S K E : Type 0} (source : Source S) (sink : Sink K) (errors : Sink E) (words : List (List ℕ)) (s s' : S) (k k' : K) (e e' : E) (old new returned : ℕ) : Type 0 where
  pub outcome : Option Fault
  pub runs : Runs source sink words s s' k k' outcome
  pub steps : RunSteps source words s s' outcome old new
  pub reports : ReportsStatus errors e e' outcome returned
