-- The results of reading a source, and of a command over its bytes.
use Rattle.std.proofs.Common.{◌≡◌, ℕ, ◌≤◌, List, ◌++◌, length, Option, Some, None, Result, Ok, Err, IsErr, IsErrAnd, MatchResult, arith, append-nil, length-append, refl, ap, sym, subst, ◌∙◌}
use Rattle.far_io.specs.Bytes.{Rose, Took, TookPrefix, TookMore, IsDry}
use Rattle.far_io.specs.declared.source.Source.{Ghosts}
use Rattle.far_io.specs.declared.source.InputFault.{InputFault}
use Rattle.far_io.specs.declared.source.InputFault.TheVariants.{Read as ReadFailed, Long as TooLong, Memory as NoMemory}
use Rattle.far_model.specs.Command.{Command, Reads, Stored, ReadCommand, StoredCommand}
use Rattle.subdiv_model.specs.ObjMesh.{ObjMesh}
use Rattle.subdiv_model.specs.ReadObj.{read_obj_fault, read_obj_mesh}
use Rattle.subdiv_model.specs.Fault.{Fault, Usage, Read, Long, Obj, Mesh, TooLarge, Overflow, Limit, Place, Table, Differs, Controls, Write, Memory}
use Rattle.far_model.specs.Answer.{answer_of_bytes, answer_of_command, answer_of_stored_text, byte_limit}
use Rattle.far_model.specs.Refusal.{Answer}
use Rattle.ratio128.specs.StepsTaken.{StepsTaken}
use Rattle.far_text.specs.Reply.{CanPut, reply_text}
use Rattle.far_text.specs.declared.reply.Reply.{Reply}
use Rattle.far_fault.specs.View.{fault_of}
use Rattle.far_fault.specs.declared.fault.FarFault.{FarFault}
use Rattle.mesh_answers.specs.Refusals.{IsFound, refusal_of_mesh}
use Rattle.mesh_answers.specs.Replies.{IsAnswerTo, IsReplyTo, written_text}
use Rattle.mesh_answers.specs.MeshText.{IsMeshText, IsTextFault}
use Rattle.table_answers.specs.Answers.{IsAnswerOf, IsStoredAnswer}
use Rattle.far_engine.specs.Input.{FindsReply, IsMeshOf, IsReady, IsRefused, ReadsWhole, input_fault_of}
use Rattle.far_engine.specs.Outcome.{IsAnswered}
use Rattle.far_engine.specs.StepCounts.{least_steps, step_limit}
use Rattle.far_engine.proofs.AnswerLemmas.{answer-short, found-answers, long-refusal, mesh-refusal, mesh-text, text-refusal}

-- the bytes taken up to the end are all bytes
pub all-taken : (old new : Option (List ℕ)) (taken bytes : List ℕ) → Took old new taken → IsDry new → old ≡ Some bytes → taken ≡ bytes
all-taken (Some old) (Some new) taken bytes took dry had =
    let same : old ≡ bytes = cc in sym (append-nil taken) ∙ ap (λ rest. taken ++ rest) (sym dry) ∙ sym took ∙ same
all-taken (Some old) None taken bytes took dry had = absurd took
all-taken None new taken bytes took dry had = absurd (cc)

-- the number of bytes is that of the taken ones
taken-within : (old new : Option (List ℕ)) (taken bytes : List ℕ) → Took old new taken → old ≡ Some bytes → length taken ≤ length bytes
taken-within (Some old) (Some new) taken bytes took e =
    let same : old ≡ bytes = cc in omega (arith, ap length (sym same ∙ took), length-append taken new)
taken-within (Some old) None taken bytes took e = absurd took
taken-within None new taken bytes took e = absurd (cc)

module _ {S : Type 0} (source : Ghosts S) (command : Command) (whole : ReadsWhole command) (s s' : S) where
  -- too many bytes came
  read-long : source.faults s ≤ source.faults s' → TookMore byte_limit (source.left s) (source.left s') → IsRefused source command s s' Long
  read-long later more = record {
    answer = λ bytes e. long-refusal command bytes whole (omega (arith, more.2, taken-within (source.left s) (source.left s') more.0 bytes more.1 e));
    whole = λ e. absurd (cc);
    not_usage = λ word e. absurd (cc);
    not_write = λ e. absurd (cc);
    read = λ e. absurd (cc);
    long = λ e. more;
    taken = (more.0, more.1);
    later = later;
  }

  -- a read failed
  read-failed : source.faults s ≤ source.faults s' → TookPrefix (source.left s) (source.left s') → Rose (source.faults s) (source.faults s') → IsRefused source command s s' Read
  read-failed later taken rose = record {
    answer = λ bytes e. tt;
    whole = λ e. absurd (cc);
    not_usage = λ word e. absurd (cc);
    not_write = λ e. absurd (cc);
    read = λ e. rose;
    long = λ e. absurd (cc);
    taken = taken;
    later = later;
  }

  -- memory ran out
  read-short-of-memory : source.faults s ≤ source.faults s' → TookPrefix (source.left s) (source.left s') → IsRefused source command s s' Memory
  read-short-of-memory later taken = record {
    answer = λ bytes e. tt;
    whole = λ e. absurd (cc);
    not_usage = λ word e. absurd (cc);
    not_write = λ e. absurd (cc);
    read = λ e. absurd (cc);
    long = λ e. absurd (cc);
    taken = taken;
    later = later;
  }

  -- any of these faults
  pub read-fault : (fault : Fault) (input : InputFault) → fault ≡ input_fault_of input → source.faults s ≤ source.faults s' → TookPrefix (source.left s) (source.left s') →
      (input ≡ TooLong → TookMore byte_limit (source.left s) (source.left s')) → (input ≡ ReadFailed → Rose (source.faults s) (source.faults s')) → IsRefused source command s s' fault
  read-fault fault TooLong is later taken more rose = subst (IsRefused source command s s') (sym is) (read-long later (more refl))
  read-fault fault ReadFailed is later taken more rose = subst (IsRefused source command s s') (sym is) (read-failed later taken (rose refl))
  read-fault fault NoMemory is later taken more rose = subst (IsRefused source command s s') (sym is) (read-short-of-memory later taken)

  -- a fault that has no cause of its own
  other-fault : (fault : Fault) → ((bytes : List ℕ) → source.left s ≡ Some bytes → IsAnswered (Some fault) (answer_of_command command bytes).refusal) → (refusal : Option Fault) → IsFound fault refusal →
      IsDry (source.left s') → TookPrefix (source.left s) (source.left s') → source.faults s ≤ source.faults s' → IsRefused source command s s' fault
  other-fault fault answer refusal found dry taken later = record {
    answer = answer;
    whole = λ e. dry;
    not_usage = λ word e. subst (λ f. IsFound f refusal) e found;
    not_write = λ e. subst (λ f. IsFound f refusal) e found;
    read = λ e. absurd (subst (λ f. IsFound f refusal) e found);
    long = λ e. absurd (subst (λ f. IsFound f refusal) e found);
    taken = taken;
    later = later;
  }

  -- all was read
  module _ (bytes : List ℕ) (took : Took (source.left s) (source.left s') bytes) (dry : IsDry (source.left s')) (short : length bytes ≤ byte_limit) (later : source.faults s ≤ source.faults s') where
    same-bytes : (other : List ℕ) → source.left s ≡ Some other → bytes ≡ other
    same-bytes other e = all-taken (source.left s) (source.left s') bytes other took dry e

    -- its answer is one that is defined for the bytes
    module _ (answer : Answer) (said : answer_of_command command bytes ≡ answer) where
      answer-of : (other : List ℕ) → source.left s ≡ Some other → answer_of_command command other ≡ answer
      answer-of other e = ap (answer_of_command command) (sym (same-bytes other e)) ∙ said

      pub ready-by : (reply : Reply) → answer.refusal ≡ None → reply_text reply ≡ answer.text → CanPut reply → IsReady source command s s' reply
      ready-by reply good says put = record {
        good = λ other e. ap (λ (a : Answer). a.refusal) (answer-of other e) ∙ good;
        says = λ other e. says ∙ ap (λ (a : Answer). a.text) (sym (answer-of other e));
        put = put;
        dry = dry;
        taken = (bytes, took);
        later = later;
      }

      pub refused-by : (fault : Fault) → IsFound fault answer.refusal → IsRefused source command s s' fault
      refused-by fault found =
          other-fault fault (λ other e. subst (λ (a : Answer). IsAnswered (Some fault) a.refusal) (sym (answer-of other e)) (found-answers fault answer.refusal found))
          answer.refusal found dry (bytes, took) later

    -- the result for the bytes is the result of the command
    pub finds-by : (r : Result Reply FarFault) (old new : ℕ) → MatchResult r (λ reply. IsReady source command s s' reply) (λ fault. IsRefused source command s s' (fault_of fault))
        → StepsTaken r old new (least_steps command bytes) (step_limit command bytes) → FindsReply source command s s' r old new
    finds-by r old new reply taken = record {
      reply = reply;
      of_taken = (bytes, took, taken);
      of_known = λ other e. subst (λ b. StepsTaken r old new (least_steps command b) (step_limit command b)) (same-bytes other e) taken;
    }

  -- a fault of the source only
  pub finds-fault : (fault : FarFault) (steps : ℕ) → IsRefused source command s s' (fault_of fault) → FindsReply source command s s' (Err fault) steps steps
  finds-fault fault steps is = record {
    reply = is;
    of_taken = (is.taken.0, is.taken.1, record { least = tt; most = omega arith; later = omega arith });
    of_known = λ other e. record { least = tt; most = omega arith; later = omega arith };
  }

-- The text of a mesh, which was read to its end.
module _ {S : Type 0} (source : Ghosts S) (command : ReadCommand) (s s' : S) (bytes : List ℕ) (took : Took (source.left s) (source.left s') bytes) (dry : IsDry (source.left s'))
    (short : length bytes ≤ byte_limit) (later : source.faults s ≤ source.faults s') where
  -- the text has a fault
  pub text-fault : (fault : Fault) → IsTextFault bytes 0 fault → IsRefused source (Reads command) s s' fault
  text-fault (Obj fault) is =
      refused-by source (Reads command) tt s s' bytes took dry short later (answer_of_bytes command bytes) refl (Obj fault) (text-refusal command bytes short fault is)
  text-fault Memory is = read-short-of-memory source (Reads command) tt s s' later (bytes, took)
  text-fault (Usage word) is = absurd is
  text-fault Read is = absurd is
  text-fault Long is = absurd is
  text-fault (Mesh fault) is = absurd is
  text-fault (TooLarge counted) is = absurd is
  text-fault (Overflow track level kind) is = absurd is
  text-fault (Limit cause) is = absurd is
  text-fault (Place fault) is = absurd is
  text-fault (Table fault) is = absurd is
  text-fault (Differs row) is = absurd is
  text-fault (Controls count) is = absurd is
  text-fault Write is = absurd is

  -- the text has none, and a command finds a reply to its mesh or a fault of it
  module _ (good : read_obj_fault bytes 0 ≡ None) where
    abbrev answer : Answer
    answer = answer_of_bytes command bytes

    is-ready : (reply : Reply) → IsReplyTo command (read_obj_mesh bytes 0) reply → IsReady source (Reads command) s s' reply
    unfolding written_text
    is-ready reply is =
        let none : answer.refusal ≡ None = mesh-refusal command bytes short good ∙ is.good in
        ready-by source (Reads command) tt s s' bytes took dry short later answer refl reply none (is.says ∙ sym (mesh-text command bytes short good none)) is.put

    is-refused : (fault : Fault) → IsFound fault (refusal_of_mesh command (read_obj_mesh bytes 0)) → IsRefused source (Reads command) s s' fault
    is-refused fault found =
        refused-by source (Reads command) tt s s' bytes took dry short later answer refl fault (subst (IsFound fault) (sym (mesh-refusal command bytes short good)) found)

    reply-by : (r : Result Reply FarFault) →
        MatchResult r (λ reply. IsReplyTo command (read_obj_mesh bytes 0) reply) (λ fault. IsFound (fault_of fault) (refusal_of_mesh command (read_obj_mesh bytes 0))) →
        MatchResult r (λ reply. IsReady source (Reads command) s s' reply) (λ fault. IsRefused source (Reads command) s s' (fault_of fault))
    reply-by (Ok reply) is = is-ready reply is
    reply-by (Err fault) is = is-refused (fault_of fault) is

    pub finds-mesh : (r : Result Reply FarFault) (old new : ℕ) → IsAnswerTo command (read_obj_mesh bytes 0) r old new → FindsReply source (Reads command) s s' r old new
    finds-mesh r old new is = finds-by source (Reads command) tt s s' bytes took dry short later r old new (reply-by r is.reply) is.steps

-- An input with a stored table, which was read to its end.
module _ {S : Type 0} (source : Ghosts S) (command : StoredCommand) (s s' : S) (bytes : List ℕ) (took : Took (source.left s) (source.left s') bytes) (dry : IsDry (source.left s'))
    (short : length bytes ≤ byte_limit) (later : source.faults s ≤ source.faults s') where
  abbrev stored : Answer
  stored = answer_of_stored_text command bytes

  stored-by : (r : Result Reply FarFault) → IsAnswerOf stored r → MatchResult r (λ reply. IsReady source (Stored command) s s' reply) (λ fault. IsRefused source (Stored command) s s' (fault_of fault))
  stored-by (Ok reply) is =
      ready-by source (Stored command) tt s s' bytes took dry short later stored (answer-short (answer_of_stored_text command) bytes short) reply is.good is.says is.put
  stored-by (Err fault) is =
      refused-by source (Stored command) tt s s' bytes took dry short later stored (answer-short (answer_of_stored_text command) bytes short) (fault_of fault) is

  pub finds-stored : (text : List ℕ) (r : Result Reply FarFault) (old new : ℕ) → text ≡ bytes → IsStoredAnswer command text r old new → FindsReply source (Stored command) s s' r old new
  finds-stored text r old new same is =
      let here : IsStoredAnswer command bytes r old new = subst (λ t. IsStoredAnswer command t r old new) same is in
      finds-by source (Stored command) tt s s' bytes took dry short later r old new (stored-by r here.reply) here.steps

-- A command over the mesh of a source.
pub finds-reply : {S : Type 0} (source : Ghosts S) (command : ReadCommand) (s s' : S) (mesh : ObjMesh) (r : Result Reply FarFault) (old new : ℕ) → IsMeshOf source s s' mesh →
    IsAnswerTo command mesh r old new → FindsReply source (Reads command) s s' r old new
finds-reply source command s s' mesh r old new of is =
    finds-mesh source command s s' of.bytes of.took of.dry of.short of.later of.text.good r old new (subst (λ m. IsAnswerTo command m r old new) of.text.mesh_is is)

-- a fault that is passed on is the same
pub handed-on : {X E : Type 0} (P : Result X E → Type 0) (r : Result X E) (fault : E) → IsErr r → IsErrAnd r (λ g. g ≡ fault) → P (Err fault) → P r
handed-on P (Ok x) fault err same is = absurd (cc)
handed-on P (Err other) fault err same is = subst (λ f. P (Err f)) (sym same) is

-- a refusal from before is the refusal
pub still-refused : {S : Type 0} (source : Ghosts S) (s s' : S) (r : Result ObjMesh FarFault) (fault : FarFault) → IsErr r → IsErrAnd r (λ g. g ≡ fault) →
    ((command : Command) → ReadsWhole command → IsRefused source command s s' (fault_of fault)) →
    MatchResult r (λ mesh. IsMeshOf source s s' mesh) (λ f. (command : ReadCommand) → IsRefused source (Reads command) s s' (fault_of f))
still-refused source s s' (Ok mesh) fault err same is = absurd (cc)
still-refused source s s' (Err other) fault err same is = λ command. subst (λ f. IsRefused source (Reads command) s s' (fault_of f)) (sym same) (is (Reads command) tt)

-- the result for the text of a source that was read to its end
pub mesh-of-text : {S : Type 0} (source : Ghosts S) (s s' : S) (bytes text : List ℕ) (r : Result ObjMesh FarFault) → text ≡ bytes → Took (source.left s) (source.left s') bytes → IsDry (source.left s') →
    length bytes ≤ byte_limit → source.faults s ≤ source.faults s' → MatchResult r (λ mesh. IsMeshText text 0 mesh) (λ fault. IsTextFault text 0 (fault_of fault)) →
    MatchResult r (λ mesh. IsMeshOf source s s' mesh) (λ fault. (command : ReadCommand) → IsRefused source (Reads command) s s' (fault_of fault))
mesh-of-text source s s' bytes text (Ok mesh) same took dry short later is =
    record { bytes = bytes; took = took; dry = dry; short = short; text = subst (λ t. IsMeshText t 0 mesh) same is; later = later }
mesh-of-text source s s' bytes text (Err fault) same took dry short later is =
    λ command. text-fault source command s s' bytes took dry short later (fault_of fault) (subst (λ t. IsTextFault t 0 (fault_of fault)) same is)
