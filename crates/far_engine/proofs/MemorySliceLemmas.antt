-- A run of the program over slices.
use Rattle.std.proofs.Common.{◌≡◌, ℕ, inl, inr, List, [], ◌∷◌, ◌++◌, Option, Some, None, refl, ap, ◌∙◌, subst}
use Rattle.subdiv_model.specs.Fault.{Fault, Read, Write, Memory, fault_status}
use Rattle.far_model.specs.Answer.{answer}
use Rattle.far_engine.specs.Laws.{IsAnsweredBy}
use Rattle.far_engine.specs.Runs.{Runs, Reports}
use Rattle.far_engine.proofs.LawLemmas.{answered-by, cut-at, rose-at, not-to-zero}
use Rattle.memory_streams.proofs.KeptLemmas.{keeps-slice}
use Rattle.memory_streams.specs.Text.{KeepsSlice, text_of, before_of, IsStored, count_of}
use Rattle.memory_streams.specs.declared.sink.SliceSink.{SliceSink}
use Rattle.memory_streams.specs.contracts.sink.SliceSinkSink.TheImpl as sink
use Rattle.memory_streams.specs.contracts.source.SliceSourceSource.TheImpl as source
use Rattle.far_engine.specs.declared.in_memory.Ran.{Ran}
use Rattle.far_engine.specs.MemoryRuns.{RunsOverSlices, RunsInMemory, IsAnswer, line_of, memory_line}
use Rattle.far_engine.proofs.MemoryAnswerLemmas.{adds-text, sink-kept}

-- a text appended to nothing
pub from-nothing : (old new text : List ℕ) → new ≡ old ++ text → old ≡ [] → new ≡ text
from-nothing old new text added none = added ∙ ap (λ t. t ++ text) none

-- the line of the outcome was reported, since no write failed
reported-line : (e e' : SliceSink) (outcome : Option Fault) → Reports sink.ghosts e e' outcome → text_of e ≡ [] → text_of e' ≡ line_of outcome
reported-line e e' None same none = ap text_of same ∙ none
reported-line e e' (Some fault) (inl added) none = from-nothing _ _ _ added none
reported-line e e' (Some fault) (inr cut) none = absurd (not-to-zero 0 cut.0)

-- a slice that stays has nothing stored in it
nothing-stored : (out : List ℕ) → IsStored [] out out
nothing-stored [] = refl
nothing-stored (b ∷ out) = refl

-- what is stored, under other names of the text and of the first bytes
same-stored : {text text' old old' new : List ℕ} → text ≡ text' → old ≡ old' → IsStored text old new → IsStored text' old' new
same-stored {text} {text'} {old} {old'} {new} same before stored =
    let P : List ℕ → Type 0 = λ t. IsStored t old' new in
    let Q : List ℕ → Type 0 = λ bytes. IsStored text bytes new in
    subst P same (subst Q before stored)

module _ (words : List (List ℕ)) (input left : List ℕ) (k k' : SliceSink) (empty : text_of k ≡ []) where
  is-answer : (outcome : Option Fault) → Runs source.ghosts sink.ghosts words input left k k' outcome → IsAnswer words input outcome (text_of k')
  is-answer outcome run = by (answered-by source.ghosts sink.ghosts input left k k' words input outcome run refl no_read no_write)
    where
      no_read : outcome ≡ Some Read → ⊥
      no_read e = not-to-zero 0 (rose-at source.ghosts sink.ghosts input left k k' words input outcome run refl e)

      no_write : outcome ≡ Some Write → ⊥
      no_write e = not-to-zero 0 (cut-at source.ghosts sink.ghosts input left k k' words input outcome run refl e).0

      by : IsAnsweredBy sink.ghosts (answer words input) k k' outcome → IsAnswer words input outcome (text_of k')
      by (inl is) =
          inl (is.0, from-nothing _ _ _ (adds-text source.ghosts sink.ghosts input left k k' words input outcome run refl no_write is.0 is.1) empty)
      by (inr memory) = inr (memory.0, ap text_of memory.1 ∙ empty)

  pub in-memory : (s : List ℕ) (e e' : SliceSink) (out out' errors errors' : List ℕ) (ran : Ran) → RunsOverSlices words s left k k' e e' ran.status → s ≡ input →
      text_of e ≡ [] → before_of k' ≡ out → IsStored (text_of k') (before_of k') out' → ran.written ≡ count_of (text_of k') →
      before_of e' ≡ errors → IsStored (text_of e') (before_of e') errors' → ran.reported ≡ count_of (text_of e') →
      RunsInMemory words input out out' errors errors' ran
  in-memory s e e' out out' errors errors' ran run same none before stored written line_before line_stored reported =
      let Q : List ℕ → Type 0 = λ bytes. RunsOverSlices words bytes left k k' e e' ran.status in
      let over : Q input = subst Q same run in
      let program = over.1 in
      let line = reported-line e e' program.outcome program.reports.reports none in
      record {
        outcome = program.outcome;
        text = text_of k';
        answered = is-answer program.outcome program.runs;
        status = program.reports.status;
        stored = same-stored refl before stored;
        written = written;
        line_stored = same-stored line line_before line_stored;
        reported = reported ∙ ap count_of line;
      }

-- the report of `Memory`, with nothing written
pub without-memory : (words : List (List ℕ)) (input out errors errors' : List ℕ) (e' : SliceSink) (ran : Ran) → text_of e' ≡ memory_line →
    ran.status ≡ fault_status Memory → ran.written ≡ 0 → before_of e' ≡ errors → IsStored (text_of e') (before_of e') errors' → ran.reported ≡ count_of (text_of e') →
    RunsInMemory words input out out errors errors' ran
without-memory words input out errors errors' e' ran line status none before line_stored reported =
    record {
      outcome = Some Memory;
      text = [];
      answered = inr (refl, refl);
      status = status;
      stored = nothing-stored out;
      written = none;
      line_stored = same-stored line before line_stored;
      reported = reported ∙ ap count_of line;
    }

-- the two sinks keep their slices
pub same-out : {words : List (List ℕ)} {s s' : List ℕ} {k k' e e' : SliceSink} {status : ℕ} → RunsOverSlices words s s' k k' e e' status → KeepsSlice k k' × KeepsSlice e e'
same-out {words} {s} {s'} {k} {k'} {e} {e'} run =
    (keeps-slice k k' (sink-kept source.ghosts sink.ghosts s s' k k' words run.1.outcome run.1.runs), keeps-slice e e' run.1.reports.fixed)
