-- The answer and the text of a run in which no read and no write failed.
use Rattle.std.proofs.Common.{◌≡◌, ◌≢◌, ℕ, Bool, true, false, List, [], length, nat_lt, Option, Some, None, Result, Ok, Err, append-nil, refl, ap, sym, subst, if◌then◌else◌}
use Rattle.far_io.specs.Bytes.{Added}
use Rattle.far_io.specs.declared.source.Source.{Ghosts as Source}
use Rattle.far_io.specs.declared.sink.Sink.{Ghosts as Sink}
use Rattle.subdiv_model.specs.Fault.{Fault, Write, Long}
use Rattle.subdiv_model.specs.MeshFault.{MeshFault, first_mesh_fault}
use Rattle.subdiv_model.specs.ObjFault.{ObjFault}
use Rattle.subdiv_model.specs.ObjMesh.{ObjMesh}
use Rattle.subdiv_model.specs.ReadObj.{read_obj_fault, read_obj_mesh}
use Rattle.subdiv_model.specs.ReadTable.{Reading, read_table}
use Rattle.subdiv_model.specs.TableFault.{TableFault}
use Rattle.far_model.specs.Words.{command_table, usage_of}
use Rattle.far_model.specs.Command.{Command, Reads, Stored, Makes, Streams, ReadCommand, StoredCommand, Verify, Apply, MakeCommand, command_of, read_or}
use Rattle.far_model.specs.Refusal.{Answer, refused, answer_unless}
use Rattle.far_model.specs.Answer.{answer, answer_of_checked, answer_of_read, answer_of_bytes, answer_of_apply, answer_of_stored_text, answer_of_stored, answer_of_made, answer_of_command, answer_of_words, unless_long, byte_limit}
use Rattle.far_engine.specs.Runs.{Runs, RunsCommand}

-- an answer that is refused has no text
abbrev IsWhole : Answer → Type 0
IsWhole answer = (fault : Fault) → answer.refusal ≡ Some fault → answer.text ≡ []

whole-unless : (fault : Option Fault) (text : List ℕ) → IsWhole (answer_unless fault text)
whole-unless None text = λ fault is. absurd (cc)
whole-unless (Some other) text = λ fault is. refl

whole-unless-long : (given : List ℕ → Answer) (bytes : List ℕ) → IsWhole (given bytes) → IsWhole (unless_long given bytes)
whole-unless-long given bytes is = by (nat_lt byte_limit (length bytes))
  where
    by : (long : Bool) → IsWhole (if long then refused Long else given bytes)
    by true = λ fault e. refl
    by false = is

whole-checked : (command : ReadCommand) (fault : Option MeshFault) (mesh : ObjMesh) → IsWhole (answer_of_checked command fault mesh)
whole-checked command (Some fault) mesh = λ other is. refl
whole-checked command None mesh = whole-unless _ _

whole-read : (command : ReadCommand) (fault : Option ObjFault) (mesh : ObjMesh) → IsWhole (answer_of_read command fault mesh)
whole-read command (Some fault) mesh = λ other is. refl
whole-read command None mesh = whole-checked command (first_mesh_fault (length mesh.points) mesh.faces) mesh

whole-bytes : (command : ReadCommand) (bytes : List ℕ) → IsWhole (answer_of_bytes command bytes)
whole-bytes command bytes =
    whole-unless-long (λ text. answer_of_read command (read_obj_fault text 0) (read_obj_mesh text 0)) bytes
    (whole-read command (read_obj_fault bytes 0) (read_obj_mesh bytes 0))

whole-apply : (reading : Result Reading TableFault) → IsWhole (answer_of_apply reading)
whole-apply (Err fault) = λ other is. refl
whole-apply (Ok reading) = whole-unless _ _

whole-stored-text : (command : StoredCommand) (bytes : List ℕ) → IsWhole (answer_of_stored_text command bytes)
whole-stored-text (Verify depth) bytes = whole-unless _ _
whole-stored-text Apply bytes = whole-apply (read_table bytes)

whole-stored : (command : StoredCommand) (bytes : List ℕ) → IsWhole (answer_of_stored command bytes)
whole-stored command bytes = whole-unless-long (answer_of_stored_text command) bytes (whole-stored-text command bytes)

whole-made : (command : MakeCommand) → IsWhole (answer_of_made command)
whole-made command = whole-unless _ _

added-none : (held : Option (List ℕ)) → Added held held []
added-none (Some held) = sym (append-nil held)
added-none None = tt

module _ {S K : Type 0} (source : Source S) (sink : Sink K) (s s' : S) (k k' : K) where
  abbrev Adds : Answer → Type 0
  Adds answer = Added (sink.held k) (sink.held k') answer.text

  -- the sink was not called, and there is no text
  adds-none : (answer : Answer) → answer.text ≡ [] → k' ≡ k → Adds answer
  adds-none answer none same =
      let P : K → Type 0 = λ now. Added (sink.held k) (sink.held now) answer.text in
      let Q : List ℕ → Type 0 = λ text. Added (sink.held k) (sink.held k) text in
      subst P (sym same) (subst Q (sym none) (added-none (sink.held k)))

  adds-whole : (answer : Answer) (outcome : Option Fault) → IsWhole answer → ((fault : Fault) → outcome ≡ Some fault → fault ≢ Write → k' ≡ k) →
      (outcome ≡ Some Write → ⊥) → outcome ≡ answer.refusal → (outcome ≡ None → Adds answer) → Adds answer
  adds-whole answer None is kept no_write refused text = text refl
  adds-whole answer (Some fault) is kept no_write refused text = adds-none answer (is fault (sym refused)) (kept fault refl (λ e. no_write (ap Some e)))

  adds-of-command : (command : Command) (bytes : List ℕ) (outcome : Option Fault) → RunsCommand source sink command s s' k k' outcome →
      source.left s ≡ Some bytes → (outcome ≡ Some Write → ⊥) → outcome ≡ (answer_of_command command bytes).refusal →
      (outcome ≡ None → Adds (answer_of_command command bytes)) → Adds (answer_of_command command bytes)
  adds-of-command (Reads command) bytes outcome run had no_write refused text =
      adds-whole (answer_of_bytes command bytes) outcome (whole-bytes command bytes) run.kept no_write refused text
  adds-of-command (Stored command) bytes outcome run had no_write refused text =
      adds-whole (answer_of_stored command bytes) outcome (whole-stored command bytes) run.kept no_write refused text
  adds-of-command (Makes command) bytes outcome run had no_write refused text =
      adds-whole (answer_of_made command) outcome (whole-made command) run.kept no_write refused text
  adds-of-command (Streams command) bytes outcome run had no_write refused text = (run.answer bytes had).text refused

  module _ (words : List (List ℕ)) (bytes : List ℕ) (outcome : Option Fault) (run : Runs source sink words s s' k k' outcome)
      (had : source.left s ≡ Some bytes) (no_write : outcome ≡ Some Write → ⊥) where
    abbrev Follows : Answer → Type 0
    Follows answer = outcome ≡ answer.refusal → (outcome ≡ None → Adds answer) → Adds answer

    adds-by : (usage : Option ℕ) → usage_of command_table words ≡ usage → Follows (answer words bytes)
    adds-by None is =
        subst Follows (sym (ap (λ place. answer_of_words (read_or place words) bytes) is))
        (adds-of-command (command_of words) bytes outcome (run.command is) had no_write)
    adds-by (Some word) is =
        let none : (answer words bytes).text ≡ [] = ap (λ place. (answer_of_words (read_or place words) bytes).text) is in
        λ refused text. adds-none (answer words bytes) none (run.uncalled word ((run.usage word).1 is)).1

    -- the text of the answer was appended, for a refused answer too
    pub adds-text : Follows (answer words bytes)
    adds-text = adds-by (usage_of command_table words) refl

  -- the fields that no call of the sink changes are as they were
  kept-by-command : (outcome : Option Fault) (command : Command) → RunsCommand source sink command s s' k k' outcome → sink.fixed k' ≡ sink.fixed k
  kept-by-command outcome (Reads command) run = run.ran.sink_fixed
  kept-by-command outcome (Stored command) run = run.ran.sink_fixed
  kept-by-command outcome (Makes command) run = run.ran.sink_fixed
  kept-by-command outcome (Streams command) run = run.ran.sink_fixed

  kept-by : (words : List (List ℕ)) (outcome : Option Fault) → Runs source sink words s s' k k' outcome → (usage : Option ℕ) → usage_of command_table words ≡ usage →
      sink.fixed k' ≡ sink.fixed k
  kept-by words outcome run None is = kept-by-command outcome (command_of words) (run.command is)
  kept-by words outcome run (Some word) is = ap sink.fixed (run.uncalled word ((run.usage word).1 is)).1

  pub sink-kept : (words : List (List ℕ)) (outcome : Option Fault) → Runs source sink words s s' k k' outcome → sink.fixed k' ≡ sink.fixed k
  sink-kept words outcome run = kept-by words outcome run (usage_of command_table words) refl
