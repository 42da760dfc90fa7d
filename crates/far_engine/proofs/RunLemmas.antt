-- The obligations of a run at each of its ends.
use Rattle.std.proofs.Common.{◌≡◌, ℕ, ◌+◌, ◌≤◌, List, [], take, Option, Some, None, Result, Ok, Err, IsErr, IsErrAnd, arith, append-nil, refl, sym, subst, ◌∙◌}
use Rattle.far_io.specs.Bytes.{Rose, Took, Added, AddedPrefix}
use Rattle.far_io.specs.declared.source.Source.{Ghosts as Source}
use Rattle.far_io.specs.declared.sink.Sink.{Ghosts as Sink}
use Rattle.far_model.specs.Words.{command_table, usage_of}
use Rattle.far_model.specs.Command.{Command, Reads, Stored, Makes, Streams, ReadCommand, StoredCommand, MakeCommand, command_of}
use Rattle.subdiv_model.specs.Fault.{Fault, Usage, Read, Long, Write}
use Rattle.subdiv_model.specs.ObjMesh.{ObjMesh}
use Rattle.ratio128.specs.StepsTaken.{StepsTaken}
use Rattle.far_text.specs.Reply.{reply_text}
use Rattle.far_text.specs.declared.reply.Reply.{Reply}
use Rattle.far_fault.specs.View.{fault_of, outcome_of}
use Rattle.far_fault.specs.declared.fault.FarFault.{FarFault}
use Rattle.mesh_answers.specs.Refusals.{IsFound, refusal_of_made}
use Rattle.mesh_answers.specs.Replies.{IsAnswerTo, IsMadeAnswer, IsMadeReply, made_written}
use Rattle.far_engine.specs.Input.{FindsReply, IsMeshOf, IsReady, IsRefused, PutsFound}
use Rattle.far_words.proofs.WordsLemmas.{says-in-range}
use Rattle.far_engine.specs.Runs.{Ran, Runs, RunsCommand, RunsMake, RunsRead}
use Rattle.far_engine.specs.StepCounts.{IsWithinSteps, TakesSteps}
use Rattle.far_engine.proofs.InputLemmas.{finds-reply}
use Rattle.far_engine.proofs.AnswerLemmas.{found-answers, made-text}
use Rattle.far_engine.proofs.ManifoldLemmas.{accepted-manifolds}

added-nothing : (o : Option (List ℕ)) → Added o o []
added-nothing (Some old) = sym (append-nil old)
added-nothing None = tt

took-nothing : (o : Option (List ℕ)) → Took o o []
took-nothing (Some old) = refl
took-nothing None = tt

-- a fact about every command is one about each kind
ran-of : {S K : Type 0} (source : Source S) (sink : Sink K) (command : Command) (s s' : S) (k k' : K) (outcome : Option Fault) →
    RunsCommand source sink command s s' k k' outcome → Ran source sink s s' k k' outcome
ran-of source sink (Reads command) s s' k k' outcome runs = runs.ran
ran-of source sink (Stored command) s s' k k' outcome runs = runs.ran
ran-of source sink (Makes command) s s' k k' outcome runs = runs.ran
ran-of source sink (Streams command) s s' k k' outcome runs = runs.ran

module _ {S K : Type 0} (source : Source S) (sink : Sink K) where
  -- a fault was found before anything was written
  module _ (command : Command) (s s' : S) (k : K) (fault : Fault) (is : IsRefused source command s s' fault) where
    pub read-refused : RunsRead source sink command s s' k k (Some fault)
    read-refused = record {
      ran = record {
        not_usage = λ word e. is.not_usage word (cc);
        read = λ e. is.read (cc);
        write = λ e. absurd (is.not_write (cc));
        taken = is.taken;
        added = ([], added-nothing (sink.held k));
        source_later = is.later;
        sink_later = omega arith;
        sink_fixed = refl;
      };
      answer = λ bytes e. record { answered = is.answer bytes e; text = λ f. absurd (cc); prefix = λ f. absurd (is.not_write (cc)) };
      whole = is.whole;
      long = λ e. is.long (cc);
      kept = λ other e f. refl;
    }

  -- the sink contains the text of a reply
  module _ (command : Command) (s s' : S) (k k' : K) (reply : Reply) (is : IsReady source command s s' reply) (later : sink.faults k ≤ sink.faults k') (fixed : sink.fixed k' ≡ sink.fixed k) where
    read-written : Added (sink.held k) (sink.held k') (reply_text reply) → RunsRead source sink command s s' k k' None
    read-written added = record {
      ran = record {
        not_usage = λ word e. absurd (cc);
        read = λ e. absurd (cc);
        write = λ e. absurd (cc);
        taken = is.taken;
        added = (reply_text reply, added);
        source_later = is.later;
        sink_later = later;
        sink_fixed = fixed;
      };
      answer = λ bytes e. record {
        answered = is.good bytes e;
        text = λ f. subst (Added (sink.held k) (sink.held k')) (is.says bytes e) added;
        prefix = λ f. absurd (cc);
      };
      whole = λ e. is.dry;
      long = λ e. absurd (cc);
      kept = λ other e f. absurd (cc);
    }

    -- the sink failed, and contains a prefix of the text
    read-cut : Rose (sink.faults k) (sink.faults k') → AddedPrefix (sink.held k) (sink.held k') (reply_text reply) → RunsRead source sink command s s' k k' (Some Write)
    read-cut rose prefix = record {
      ran = record {
        not_usage = λ word e. absurd (cc);
        read = λ e. absurd (cc);
        write = λ e. rose;
        taken = is.taken;
        added = (take prefix.0 (reply_text reply), prefix.2);
        source_later = is.later;
        sink_later = later;
        sink_fixed = fixed;
      };
      answer = λ bytes e. record {
        answered = is.good bytes e;
        text = λ f. absurd (cc);
        prefix = λ f. subst (AddedPrefix (sink.held k) (sink.held k')) (is.says bytes e) prefix;
      };
      whole = λ e. is.dry;
      long = λ e. absurd (cc);
      kept = λ other e f. absurd (f (cc));
    }

  -- any result, and any answer of the sink
  pub runs-read : (command : Command) (s s' : S) (k k' : K) (found : Result Reply FarFault) (result : Result (Unit {0}) FarFault) (old new : ℕ) →
      FindsReply source command s s' found old new → PutsFound sink found k k' result → RunsRead source sink command s s' k k' (outcome_of result)
  runs-read command s s' k k' (Err fault) result old new finds puts =
      let put = puts.refused fault refl in
      subst (λ (r : Result (Unit {0}) FarFault). RunsRead source sink command s s' k k' (outcome_of r)) (sym put.0)
      (subst (λ (l : K). RunsRead source sink command s s' k l (Some (fault_of fault))) (sym put.1) (read-refused command s s' k (fault_of fault) finds.reply))
  runs-read command s s' k k' (Ok reply) (Ok tt) old new finds puts =
      read-written command s s' k k' reply finds.reply puts.later puts.fixed (puts.written reply refl refl)
  runs-read command s s' k k' (Ok reply) (Err fault) old new finds puts =
      let put = puts.failed reply fault refl refl in
      subst (λ (f : FarFault). RunsRead source sink command s s' k k' (Some (fault_of f))) (sym put.0)
      (read-cut command s s' k k' reply finds.reply puts.later puts.fixed put.1 put.2)

  -- the steps are those of the result
  found-steps : (k k' : K) (found : Result Reply FarFault) (result : Result (Unit {0}) FarFault) (old new least most : ℕ) → PutsFound sink found k k' result →
      StepsTaken found old new least most → outcome_of result ≡ None → old + least ≤ new
  found-steps k k' (Ok reply) result old new least most puts taken none = taken.least
  found-steps k k' (Err fault) result old new least most puts taken none = absurd (failed result (puts.refused fault refl).0 none)
    where
      failed : (r : Result (Unit {0}) FarFault) → r ≡ Err fault → outcome_of r ≡ None → ⊥
      failed (Ok tt) e f = cc
      failed (Err other) e f = cc

  pub read-steps : (command : Command) (s s' : S) (k k' : K) (found : Result Reply FarFault) (result : Result (Unit {0}) FarFault) (old new : ℕ) →
      FindsReply source command s s' found old new → PutsFound sink found k k' result → TakesSteps source command s s' (outcome_of result) old new
  read-steps command s s' k k' found result old new finds puts = record {
    later = finds.of_taken.2.later;
    of_taken = (
      finds.of_taken.0,
      finds.of_taken.1,
      record {
        most = finds.of_taken.2.most;
        least = found-steps k k' found result old new _ _ puts finds.of_taken.2;
      },
    );
    of_known = λ bytes e. record { most = (finds.of_known bytes e).most; least = found-steps k k' found result old new _ _ puts (finds.of_known bytes e) };
  }

  -- a command that makes its mesh
  module _ (command : MakeCommand) (s : S) (k k' : K) where
    ran-made : (outcome : Option Fault) (text : List ℕ) → ((word : ℕ) → outcome ≡ Some (Usage word) → ⊥) → (outcome ≡ Some Read → ⊥) → (outcome ≡ Some Write → Rose (sink.faults k) (sink.faults k')) →
        Added (sink.held k) (sink.held k') text → sink.faults k ≤ sink.faults k' → sink.fixed k' ≡ sink.fixed k → Ran source sink s s k k' outcome
    ran-made outcome text not_usage not_read write added later fixed = record {
      not_usage = not_usage;
      read = λ e. absurd (not_read e);
      write = write;
      taken = ([], took-nothing (source.left s));
      added = (text, added);
      source_later = omega arith;
      sink_later = later;
      sink_fixed = fixed;
    }

    -- the faults that a command that makes its mesh never has
    not-as : (fault : Fault) → IsFound fault (refusal_of_made command) → ((word : ℕ) → fault ≡ Usage word → ⊥) × (fault ≡ Read → ⊥) × (fault ≡ Long → ⊥) × (fault ≡ Write → ⊥)
    not-as fault found = (
      λ word e. subst (λ f. IsFound f (refusal_of_made command)) e found,
      λ e. subst (λ f. IsFound f (refusal_of_made command)) e found,
      λ e. subst (λ f. IsFound f (refusal_of_made command)) e found,
      λ e. subst (λ f. IsFound f (refusal_of_made command)) e found,
    )

    made-written : (reply : Reply) → IsMadeReply command reply → Added (sink.held k) (sink.held k') (reply_text reply) → sink.faults k ≤ sink.faults k' → sink.fixed k' ≡ sink.fixed k →
        RunsMake source sink command s s k k' None
    unfolding made_written
    made-written reply is added later fixed = record {
      ran = ran-made None (reply_text reply) (λ word e. absurd (cc)) (λ e. absurd (cc)) (λ e. absurd (cc)) added later fixed;
      answer = record {
        answered = is.good;
        text = λ e. subst (Added (sink.held k) (sink.held k')) (is.says ∙ sym (made-text command is.good)) added;
        prefix = λ e. absurd (cc);
      };
      unread = refl;
      not_read = λ e. absurd (cc);
      not_long = λ e. absurd (cc);
      kept = λ other e f. absurd (cc);
    }

    made-cut : (reply : Reply) → IsMadeReply command reply → Rose (sink.faults k) (sink.faults k') → AddedPrefix (sink.held k) (sink.held k') (reply_text reply) →
        sink.faults k ≤ sink.faults k' → sink.fixed k' ≡ sink.fixed k → RunsMake source sink command s s k k' (Some Write)
    unfolding made_written
    made-cut reply is rose prefix later fixed = record {
      ran = ran-made (Some Write) (take prefix.0 (reply_text reply)) (λ word e. absurd (cc)) (λ e. absurd (cc)) (λ e. rose) prefix.2 later fixed;
      answer = record {
        answered = is.good;
        text = λ e. absurd (cc);
        prefix = λ e. subst (AddedPrefix (sink.held k) (sink.held k')) (is.says ∙ sym (made-text command is.good)) prefix;
      };
      unread = refl;
      not_read = λ e. absurd (cc);
      not_long = λ e. absurd (cc);
      kept = λ other e f. absurd (f (cc));
    }

  made-refused : (command : MakeCommand) (s : S) (k : K) (fault : Fault) → IsFound fault (refusal_of_made command) → RunsMake source sink command s s k k (Some fault)
  made-refused command s k fault found =
      let not = not-as command s k k fault found in
      record {
        ran =
            ran-made command s k k (Some fault) [] (λ word e. not.0 word (cc)) (λ e. not.1 (cc)) (λ e. absurd (not.3 (cc))) (added-nothing (sink.held k)) (omega arith) refl;
        answer = record { answered = found-answers fault (refusal_of_made command) found; text = λ e. absurd (cc); prefix = λ e. absurd (not.3 (cc)) };
        unread = refl;
        not_read = λ e. not.1 (cc);
        not_long = λ e. not.2 (cc);
        kept = λ other e f. refl;
      }

  pub runs-make : (command : MakeCommand) (s : S) (k k' : K) (found : Result Reply FarFault) (result : Result (Unit {0}) FarFault) (old new : ℕ) →
      IsMadeAnswer command found old new → PutsFound sink found k k' result → RunsMake source sink command s s k k' (outcome_of result)
  runs-make command s k k' (Err fault) result old new finds puts =
      let put = puts.refused fault refl in
      subst (λ (r : Result (Unit {0}) FarFault). RunsMake source sink command s s k k' (outcome_of r)) (sym put.0)
      (subst (λ (l : K). RunsMake source sink command s s k l (Some (fault_of fault))) (sym put.1) (made-refused command s k (fault_of fault) finds.reply))
  runs-make command s k k' (Ok reply) (Ok tt) old new finds puts =
      made-written command s k k' reply finds.reply (puts.written reply refl refl) puts.later puts.fixed
  runs-make command s k k' (Ok reply) (Err fault) old new finds puts =
      let put = puts.failed reply fault refl refl in
      subst (λ (f : FarFault). RunsMake source sink command s s k k' (Some (fault_of f))) (sym put.0)
      (made-cut command s k k' reply finds.reply put.1 put.2 puts.later puts.fixed)

  pub make-steps : (command : MakeCommand) (s : S) (k k' : K) (found : Result Reply FarFault) (result : Result (Unit {0}) FarFault) (old new : ℕ) →
      IsMadeAnswer command found old new → PutsFound sink found k k' result → TakesSteps source (Makes command) s s (outcome_of result) old new
  make-steps command s k k' found result old new finds puts =
      let within : (bytes : List ℕ) → IsWithinSteps (Makes command) bytes (outcome_of result) old new =
      λ bytes. record { most = finds.steps.most; least = found-steps k k' found result old new _ _ puts finds.steps } in
      record {
        later = finds.steps.later;
        of_taken = ([], took-nothing (source.left s), within []);
        of_known = λ bytes e. within bytes;
      }

  -- a command runs as the kind that its name says
  module _ (named command : Command) (same : named ≡ command) (s s' : S) where
    pub runs-as : (k k' : K) (outcome : Option Fault) → RunsCommand source sink command s s' k k' outcome → RunsCommand source sink named s s' k k' outcome
    runs-as k k' outcome runs = subst (λ c. RunsCommand source sink c s s' k k' outcome) (sym same) runs

    pub steps-as : (outcome : Option Fault) (old new : ℕ) → TakesSteps source command s s' outcome old new → TakesSteps source named s s' outcome old new
    steps-as outcome old new takes = subst (λ c. TakesSteps source c s s' outcome old new) (sym same) takes

  -- a fault of the source is one of the command
  pub runs-fault : (named : Command) (command : ReadCommand) (s s' : S) (k : K) (r : Result (Unit {0}) FarFault) (fault : FarFault) → named ≡ Reads command → IsErr r → IsErrAnd r (λ g. g ≡ fault) →
      IsRefused source (Reads command) s s' (fault_of fault) → RunsCommand source sink named s s' k k (outcome_of r)
  runs-fault named command s s' k (Ok tt) fault same err known is = absurd (cc)
  runs-fault named command s s' k (Err other) fault same err known is =
      runs-as named (Reads command) same s s' k k (Some (fault_of other)) (read-refused (Reads command) s s' k (fault_of other) (subst (λ f. IsRefused source (Reads command) s s' (fault_of f)) (sym known) is))

  pub fault-steps : (named : Command) (command : ReadCommand) (s s' : S) (r : Result (Unit {0}) FarFault) (fault : FarFault) (steps : ℕ) → named ≡ Reads command → IsErr r →
      IsRefused source (Reads command) s s' (fault_of fault) → TakesSteps source named s s' (outcome_of r) steps steps
  fault-steps named command s s' (Ok tt) fault steps same err is = absurd (cc)
  fault-steps named command s s' (Err other) fault steps same err is =
      let within : (bytes : List ℕ) → IsWithinSteps (Reads command) bytes (Some (fault_of other)) steps steps =
      λ bytes. record { most = omega arith; least = λ e. absurd (cc) } in
      steps-as named (Reads command) same s s' (Some (fault_of other)) steps steps
      (record { later = omega arith; of_taken = (is.taken.0, is.taken.1, within is.taken.0); of_known = λ bytes e. within bytes })

  -- an answer to the mesh of a source is one of the command
  module _ (named : Command) (command : ReadCommand) (same : named ≡ Reads command) (s s' : S) (mesh : ObjMesh) (of : IsMeshOf source s s' mesh)
      (found : Result Reply FarFault) (old new : ℕ) (is : IsAnswerTo command mesh found old new) (k k' : K) (result : Result (Unit {0}) FarFault) (puts : PutsFound sink found k k' result) where
    pub runs-mesh : RunsCommand source sink named s s' k k' (outcome_of result)
    runs-mesh = runs-as named (Reads command) same s s' k k' (outcome_of result) (runs-read (Reads command) s s' k k' found result old new (finds-reply source command s s' mesh found old new of is) puts)

    pub steps-mesh : TakesSteps source named s s' (outcome_of result) old new
    steps-mesh = steps-as named (Reads command) same s s' (outcome_of result) old new (read-steps (Reads command) s s' k k' found result old new (finds-reply source command s s' mesh found old new of is) puts)

  -- a result for a stored table is an answer of the command
  module _ (named : Command) (command : StoredCommand) (same : named ≡ Stored command) (s s' : S) (found : Result Reply FarFault) (old new : ℕ)
      (finds : FindsReply source (Stored command) s s' found old new) (k k' : K) (result : Result (Unit {0}) FarFault) (puts : PutsFound sink found k k' result) where
    pub runs-stored : RunsCommand source sink named s s' k k' (outcome_of result)
    runs-stored = runs-as named (Stored command) same s s' k k' (outcome_of result) (runs-read (Stored command) s s' k k' found result old new finds puts)

    pub steps-stored : TakesSteps source named s s' (outcome_of result) old new
    steps-stored = steps-as named (Stored command) same s s' (outcome_of result) old new (read-steps (Stored command) s s' k k' found result old new finds puts)

  -- words that spell a command run it
  pub runs-words : (words : List (List ℕ)) (command : Command) (s s' : S) (k k' : K) (outcome : Option Fault) → usage_of command_table words ≡ None → command ≡ command_of words →
      RunsCommand source sink command s s' k k' outcome → Runs source sink words s s' k k' outcome
  runs-words words command s s' k k' outcome none said runs =
      let here : RunsCommand source sink (command_of words) s s' k k' outcome = subst (λ c. RunsCommand source sink c s s' k k' outcome) said runs in
      let not_usage = (ran-of source sink (command_of words) s s' k k' outcome here).not_usage in
      record {
        usage = λ word. (λ e. absurd (not_usage word e), λ e. absurd (cc));
        uncalled = λ word e. absurd (not_usage word e);
        command = λ e. here;
        manifold = λ e bytes mesh is. accepted-manifolds (command_of words) bytes mesh (says-in-range words none) is;
      }
