-- The number of steps of a run.
-- Source: this profile.
use Rattle.std.specs.Prelude.{ℕ, ◌≡◌, ◌+◌, ◌≤◌, List, Option, Some, None}
use Rattle.far_io.specs.Bytes.{Took}
use Rattle.far_io.specs.declared.source.Source.{Ghosts}
use Rattle.far_model.specs.Words.{command_table, usage_of}
use Rattle.far_model.specs.Command.{Command, Reads, Stored, Makes, Streams, StreamCommand, Frames, command_of}
use Rattle.subdiv_model.specs.Fault.{Fault}
use Rattle.subdiv_model.specs.ReadObj.{obj_lines, read_obj_mesh}
use Rattle.far_model.specs.Frames.{frame_lines}
use Rattle.far_model.specs.Answer.{frames_lines, frames_mesh}
use Rattle.table_answers.specs.FrameStepCounts.{start_least, frames_limit}
use Rattle.mesh_answers.specs.StepCounts as mesh
use Rattle.table_answers.specs.Answers.{stored_least, stored_limit}

-- the least number of steps of a stream that answers an input
abbrev pub stream_least : StreamCommand → List ℕ → ℕ
stream_least (Frames options) bytes = start_least options.depth (frames_mesh options (frames_lines bytes))

-- the greatest number of steps of a stream with any input
abbrev pub stream_limit : StreamCommand → List ℕ → ℕ
stream_limit (Frames options) bytes = frames_limit options.depth (frames_mesh options (frames_lines bytes)) (frame_lines (obj_lines bytes))

-- the least number of steps of a command that answers an input
abbrev pub least_steps : Command → List ℕ → ℕ
least_steps (Reads command) bytes = mesh.least_steps command (read_obj_mesh bytes 0)
least_steps (Stored command) bytes = stored_least command bytes
least_steps (Makes command) bytes = mesh.made_least command
least_steps (Streams command) bytes = stream_least command bytes

-- the greatest number of steps of a command with any input
abbrev pub step_limit : Command → List ℕ → ℕ
step_limit (Reads command) bytes = mesh.step_limit command (read_obj_mesh bytes 0)
step_limit (Stored command) bytes = stored_limit command bytes
step_limit (Makes command) bytes = mesh.made_limit command
step_limit (Streams command) bytes = stream_limit command bytes

-- the steps between these counts are within the bounds of the command for the input
pub record IsWithinSteps (command : Command) (bytes : List ℕ) (outcome : Option Fault) (old new : ℕ) : Type 0 where
  pub most : new ≤ old + step_limit command bytes
  pub least : outcome ≡ None → old + least_steps command bytes ≤ new

-- The steps of a command over a source are within its bounds for the bytes that came. If the source gives all its bytes, they are within
-- the bounds for these too.
pub record TakesSteps {S : Type 0} (source : Ghosts S) (command : Command) (s s' : S) (outcome : Option Fault) (old new : ℕ) : Type 0 where
  pub later : old ≤ new
  pub of_taken : (bytes : List ℕ) × Took (source.left s) (source.left s') bytes × IsWithinSteps command bytes outcome old new
  pub of_known : (bytes : List ℕ) → source.left s ≡ Some bytes → IsWithinSteps command bytes outcome old new

-- words that are not a command take no steps
pub record RunSteps {S : Type 0} (source : Ghosts S) (words : List (List ℕ)) (s s' : S) (outcome : Option Fault) (old new : ℕ) : Type 0 where
  pub refused : (word : ℕ) → usage_of command_table words ≡ Some word → new ≡ old
  pub command : usage_of command_table words ≡ None → TakesSteps source (command_of words) s s' outcome old new
