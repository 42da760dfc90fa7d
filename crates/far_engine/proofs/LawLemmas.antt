-- The answer of a run whose counts of faults do not rise.
use Rattle.std.proofs.Common.{◌≡◌, ℕ, ◌+◌, ◌<◌, ◌⊎◌, inl, inr, List, length, take, Option, Some, None, arith, length-append, length-take-le, refl, ap, sym, subst, ◌∙◌}
use Rattle.std.proofs.lemmas.Bool.Decides.{nat_tests}
use Rattle.far_io.specs.Bytes.{Rose, AddedPrefix}
use Rattle.far_io.specs.Memory.{SureOutput, sure_faults}
use Rattle.far_io.specs.declared.source.Source.{Ghosts as Source}
use Rattle.far_io.specs.declared.sink.Sink.{Ghosts as Sink}
use Rattle.far_model.specs.Words.{command_table, usage_of}
use Rattle.far_model.specs.Command.{Command, Reads, Stored, Makes, Streams, command_of, read_or}
use Rattle.subdiv_model.specs.Fault.{Fault, Usage, Read, Long, Obj, Mesh, TooLarge, Overflow, Limit, Place, Table, Differs, Controls, Write, Memory}
use Rattle.far_model.specs.Refusal.{Answer}
use Rattle.far_model.specs.Answer.{answer, answer_of_command, answer_of_words}
use Rattle.far_engine.specs.Laws.{IsAnsweredBy}
use Rattle.far_engine.specs.Runs.{AnswersLines, AnswersWhole, Ran, Runs, RunsCommand}

module _ {S K : Type 0} (source : Source S) (sink : Sink K) (s s' : S) (k k' : K) where
  whole : (answer : Answer) (outcome : Option Fault) → AnswersWhole sink answer k k' outcome → (outcome ≡ Some Read → ⊥) → (outcome ≡ Some Write → ⊥) → (outcome ≡ Some Memory → k' ≡ k) →
      IsAnsweredBy sink answer k k' outcome
  whole answer None is no_read no_write kept = inl (sym is.answered, is.text)
  whole answer (Some Memory) is no_read no_write kept = inr (refl, kept refl)
  whole answer (Some Read) is no_read no_write kept = absurd (no_read refl)
  whole answer (Some Write) is no_read no_write kept = absurd (no_write refl)
  whole answer (Some (Usage word)) is no_read no_write kept = inl (sym is.answered, λ e. absurd (cc))
  whole answer (Some Long) is no_read no_write kept = inl (sym is.answered, λ e. absurd (cc))
  whole answer (Some (Obj fault)) is no_read no_write kept = inl (sym is.answered, λ e. absurd (cc))
  whole answer (Some (Mesh fault)) is no_read no_write kept = inl (sym is.answered, λ e. absurd (cc))
  whole answer (Some (TooLarge counted)) is no_read no_write kept = inl (sym is.answered, λ e. absurd (cc))
  whole answer (Some (Overflow track level kind)) is no_read no_write kept = inl (sym is.answered, λ e. absurd (cc))
  whole answer (Some (Limit cause)) is no_read no_write kept = inl (sym is.answered, λ e. absurd (cc))
  whole answer (Some (Place fault)) is no_read no_write kept = inl (sym is.answered, λ e. absurd (cc))
  whole answer (Some (Table fault)) is no_read no_write kept = inl (sym is.answered, λ e. absurd (cc))
  whole answer (Some (Differs row)) is no_read no_write kept = inl (sym is.answered, λ e. absurd (cc))
  whole answer (Some (Controls count)) is no_read no_write kept = inl (sym is.answered, λ e. absurd (cc))

  -- an answer line by line is one of the whole input
  by-lines : (answer : Answer) (outcome : Option Fault) → AnswersLines sink answer k k' outcome → (outcome ≡ Some Read → ⊥) → (outcome ≡ Some Write → ⊥) → (outcome ≡ Some Memory → k' ≡ k) →
      IsAnsweredBy sink answer k k' outcome
  by-lines answer outcome is no_read no_write kept = by is.answered
    where
      by : (outcome ≡ answer.refusal) ⊎ ((outcome ≡ Some Read) ⊎ ((outcome ≡ Some Write) ⊎ (outcome ≡ Some Memory))) → IsAnsweredBy sink answer k k' outcome
      by (inl e) = inl (e, λ none. is.text e)
      by (inr (inl read)) = absurd (no_read read)
      by (inr (inr (inl write))) = absurd (no_write write)
      by (inr (inr (inr memory))) = inr (memory, kept memory)

  -- the effect of a command of any kind
  pub record HasAnswered (answer : Answer) (outcome : Option Fault) : Type 0 where
    pub ran : Ran source sink s s' k k' outcome
    pub answers : (outcome ≡ Some Read → ⊥) → (outcome ≡ Some Write → ⊥) → IsAnsweredBy sink answer k k' outcome
    pub prefix : outcome ≡ Some Write → AddedPrefix (sink.held k) (sink.held k') answer.text

  has-whole : (answer : Answer) (outcome : Option Fault) → Ran source sink s s' k k' outcome → AnswersWhole sink answer k k' outcome → (outcome ≡ Some Memory → k' ≡ k) → HasAnswered answer outcome
  has-whole answer outcome ran is kept = record { ran = ran; answers = λ no_read no_write. whole answer outcome is no_read no_write kept; prefix = is.prefix }

  of-command : (command : Command) (bytes : List ℕ) (outcome : Option Fault) → RunsCommand source sink command s s' k k' outcome → source.left s ≡ Some bytes →
      HasAnswered (answer_of_command command bytes) outcome
  of-command (Reads command) bytes outcome run had = has-whole _ outcome run.ran (run.answer bytes had) (λ e. run.kept Memory e (λ f. cc))
  of-command (Stored command) bytes outcome run had = has-whole _ outcome run.ran (run.answer bytes had) (λ e. run.kept Memory e (λ f. cc))
  of-command (Makes command) bytes outcome run had = has-whole _ outcome run.ran run.answer (λ e. run.kept Memory e (λ f. cc))
  of-command (Streams command) bytes outcome run had =
      let is = run.answer bytes had in
      record { ran = run.ran; answers = λ no_read no_write. by-lines _ outcome is no_read no_write run.kept; prefix = is.prefix }

  module _ (words : List (List ℕ)) (bytes : List ℕ) (outcome : Option Fault) (run : Runs source sink words s s' k k' outcome) (had : source.left s ≡ Some bytes) where
    of-words : usage_of command_table words ≡ None → HasAnswered (answer words bytes) outcome
    of-words good =
        subst (λ (a : Answer). HasAnswered a outcome) (sym (ap (λ place. answer_of_words (read_or place words) bytes) good))
        (of-command (command_of words) bytes outcome (run.command good) had)

    -- words that are not a command are refused
    refused-words : (word : ℕ) → usage_of command_table words ≡ Some word → outcome ≡ Some (Usage word)
    refused-words word is = (run.usage word).1 is

    by-usage : (usage : Option ℕ) → usage_of command_table words ≡ usage → (outcome ≡ Some Read → ⊥) → (outcome ≡ Some Write → ⊥) → IsAnsweredBy sink (answer words bytes) k k' outcome
    by-usage None is no_read no_write = (of-words is).answers no_read no_write
    by-usage (Some word) is no_read no_write =
        let refused = refused-words word is in
        inl (refused ∙ sym (ap (λ place. (answer_of_words (read_or place words) bytes).refusal) is), λ none. absurd (some-none outcome word refused none))
      where
        some-none : (o : Option Fault) (word : ℕ) → o ≡ Some (Usage word) → o ≡ None → ⊥
        some-none o word e f = cc

    -- if a write fails, a prefix of the text was appended
    cut-by : (usage : Option ℕ) → usage_of command_table words ≡ usage → outcome ≡ Some Write →
        Rose (sink.faults k) (sink.faults k') × AddedPrefix (sink.held k) (sink.held k') (answer words bytes).text × (sink.fixed k' ≡ sink.fixed k)
    cut-by None is e = let all = of-words is in (all.ran.write e, all.prefix e, all.ran.sink_fixed)
    cut-by (Some word) is e = absurd (two outcome word (refused-words word is) e)
      where
        two : (o : Option Fault) (word : ℕ) → o ≡ Some (Usage word) → o ≡ Some Write → ⊥
        two o word e f = cc

    rose-by : (usage : Option ℕ) → usage_of command_table words ≡ usage → outcome ≡ Some Read → Rose (source.faults s) (source.faults s')
    rose-by None is e = (of-words is).ran.read e
    rose-by (Some word) is e = absurd (two outcome word (refused-words word is) e)
      where
        two : (o : Option Fault) (word : ℕ) → o ≡ Some (Usage word) → o ≡ Some Read → ⊥
        two o word e f = cc

    pub answered-by : (outcome ≡ Some Read → ⊥) → (outcome ≡ Some Write → ⊥) → IsAnsweredBy sink (answer words bytes) k k' outcome
    answered-by = by-usage (usage_of command_table words) refl

    pub cut-at : outcome ≡ Some Write → Rose (sink.faults k) (sink.faults k') × AddedPrefix (sink.held k) (sink.held k') (answer words bytes).text × (sink.fixed k' ≡ sink.fixed k)
    cut-at = cut-by (usage_of command_table words) refl

    pub rose-at : outcome ≡ Some Read → Rose (source.faults s) (source.faults s')
    rose-at = rose-by (usage_of command_table words) refl

    pub answered-without-faults : (Rose (source.faults s) (source.faults s') → ⊥) → (Rose (sink.faults k) (sink.faults k') → ⊥) → IsAnsweredBy sink (answer words bytes) k k' outcome
    answered-without-faults no_read no_write = answered-by (λ e. no_read (rose-at e)) (λ e. no_write (cut-at e).0)

-- no count is above 0 and has risen to 0
pub not-to-zero : (before : ℕ) → Rose before 0 → ⊥
not-to-zero before (inl h) = omega arith
not-to-zero before (inr h) = omega arith

-- while a sink in memory has capacity its count is 0
no-faults : (s : SureOutput) → length s.store.held < s.store.room → sure_faults s ≡ 0
no-faults s h = grind (arith, nat_tests)

-- a sink with capacity for a text and one byte more does not fail
pub no-write : (text : List ℕ) (before after : SureOutput) → length before.store.held + length text < before.store.room → after.store.room ≡ before.store.room →
    AddedPrefix (Some before.store.held) (Some after.store.held) text → Rose (sure_faults before) (sure_faults after) → ⊥
no-write text before after fits same prefix rose =
    let long : length after.store.held ≡ length before.store.held + length (take prefix.0 text) =
    ap length prefix.2 ∙ length-append before.store.held (take prefix.0 text) in
    let room : length after.store.held < after.store.room = omega (arith, length-take-le prefix.0 text) in
    let P : ℕ → Type 0 = λ n. Rose (sure_faults before) n in
    not-to-zero (sure_faults before) (subst P (no-faults after room) rose)
