-- The answers of frames: to a mesh, and to each line.
-- Source: this profile.
use Rattle.std.specs.Prelude.{ℕ, ◌≡◌, ◌≢◌, ◌≤◌, List, [], ◌∷◌, ◌++◌, Some, None, Result, Ok, Err, MatchResult}
use Rattle.subdiv_model.specs.ObjLine.{line_words}
use Rattle.subdiv_model.specs.ObjMesh.{ObjMesh}
use Rattle.far_model.specs.Command.{Stencils}
use Rattle.far_model.specs.Refusal.{Answer}
use Rattle.far_model.specs.Frames.{frame_answer}
use Rattle.far_io.specs.Bytes.{Rose, Added, AddedPrefix}
use Rattle.far_io.specs.declared.sink.Sink.{Ghosts}
use Rattle.far_fault.specs.View.{fault_of}
use Rattle.far_fault.specs.declared.fault.FarFault.{FarFault}
use Rattle.far_fault.specs.declared.fault.FarFault.TheVariants as answered
use Rattle.ratio128.specs.StepsTaken.{StepsTaken}
use Rattle.mesh_answers.specs.Refusals.{refusal_of_mesh, IsFound}
use Rattle.table_answers.specs.Posed.{Posed, IsPosedAfter}
use Rattle.table_answers.specs.FrameStepCounts.{line_steps, start_least, start_limit}

-- the mesh before any frame line, or its refusal by `stencils`
pub record IsStart {X : Type 0} (mesh : ObjMesh) (depth : ℕ) (result : Result X FarFault) (shown : X → Posed) (old new : ℕ) : Type 0 where
  pub posed : MatchResult result (λ x. (refusal_of_mesh (Stencils depth) mesh ≡ None) × ((shown x).depth ≡ depth) × IsPosedAfter mesh [] (shown x))
      (λ fault. IsFound (fault_of fault) (refusal_of_mesh (Stencils depth) mesh))
  pub steps : StepsTaken result old new (start_least depth mesh) (start_limit depth mesh)

-- The sink after an answer contains the whole text. After Write it contains a prefix of the text and has failed; the text is not empty.
-- After another fault, which is the refusal, the sink is as it was.
abbrev pub Answers : {K : Type 0} → Ghosts K → Answer → K → K → Result (Unit {0}) FarFault → Type 0
Answers sink answer k k' (Ok _) = (answer.refusal ≡ None) × Added (sink.held k) (sink.held k') answer.text
Answers sink answer k k' (Err answered.Write) =
    (answer.refusal ≡ None) × (answer.text ≢ []) × AddedPrefix (sink.held k) (sink.held k') answer.text × Rose (sink.faults k) (sink.faults k')
Answers sink answer k k' (Err fault) = (answer.refusal ≡ Some (fault_of fault)) × (k' ≡ k)

-- The mesh after one more line. After Write nothing is said; after another fault, which is the refusal, the mesh is as it was.
abbrev pub IsPosedOn : ObjMesh → List (List (List ℕ)) → List (List ℕ) → Posed → Posed → Result (Unit {0}) FarFault → Type 0
IsPosedOn mesh before words old new (Ok _) = IsPosedAfter mesh (before ++ words ∷ []) new
IsPosedOn mesh before words old new (Err answered.Write) = Unit {0}
IsPosedOn mesh before words old new (Err fault) = new ≡ old

-- The answer to a line after other lines. The number of the line is counted from 1.
pub record AnswersLine {K : Type 0} (sink : Ghosts K) (mesh : ObjMesh) (before : List (List (List ℕ))) (number : ℕ) (line : List ℕ) (old new : Posed) (k k' : K) (result : Result (Unit {0}) FarFault) (taken : ℕ) : Type 0 where
  pub answers : Answers sink (frame_answer old.depth mesh before number line) k k' result
  pub posed : IsPosedOn mesh before (line_words line) old new result
  pub depth : new.depth ≡ old.depth
  pub steps : taken ≤ line_steps old.depth mesh (line_words line)
  pub later : sink.faults k ≤ sink.faults k'
  pub fixed : sink.fixed k' ≡ sink.fixed k

-- the answer to a line after those that the mesh had, whichever they were
abbrev pub AnswersAfter : {K : Type 0} → Ghosts K → ℕ → List ℕ → Posed → Posed → K → K → Result (Unit {0}) FarFault → ℕ → Type 0
AnswersAfter sink number line old new k k' result taken =
    (mesh : ObjMesh) (before : List (List (List ℕ))) → IsPosedAfter mesh before old → AnswersLine sink mesh before number line old new k k' result taken
