-- The end of a stream, from the bytes that were taken and handled.
use Rattle.std.proofs.Common.{◌≡◌, ℕ, ◌+◌, ◌-◌, ◌<◌, ◌≤◌, false, ◌⊎◌, inl, inr, List, [], ◌∷◌, ◌++◌, length, take, Option, Some, None, arith, refl, ap, sym, subst, ◌∙◌, append_assoc, append-nil, length-append, ⊎_elim}
use Rattle.std.proofs.Math.Seq.{take-append-add}
use Rattle.std.proofs.lemmas.Bool.{cases_lt}
use Rattle.std.proofs.lemmas.List.{take-append-le}
use Rattle.far_io.specs.Bytes.{Rose, Took, TookPrefix, Added, AddedPrefix, IsDry}
use Rattle.far_io.specs.declared.source.Source.{Ghosts as Source}
use Rattle.far_io.specs.declared.sink.Sink.{Ghosts as Sink}
use Rattle.far_io.proofs.BytesLemmas.{Took-more, Added-more}
use Rattle.subdiv_model.specs.Fault.{Fault, Read, Long, Write, Memory}
use Rattle.far_model.specs.Refusal.{Answer, refused, after_text, then_answer, answer_unless_refused}
use Rattle.far_model.specs.Stream.{LineRule, answer_so_far, answer_of_all, answer_of_lines}
use Rattle.far_model.specs.Answer.{byte_limit}
use Rattle.stream_laws.specs.Handled.{has_lf, text_of_lines, IsHandled, IsRefusedStart}
use Rattle.stream_laws.specs.Laws.{answer_with}
use Rattle.stream_laws.proofs.BytesLemmas.{all-of, so-far-of, all-after, so-far-after, within, past, take-parts}
use Rattle.stream_laws.proofs.HandledLemmas.{handled-more}
use Rattle.stream_laws.proofs.CutLemmas.{text-more}
use Rattle.stream_laws.proofs.PartLemmas.{lines-more}
use Rattle.stream_laws.proofs.RefusedLemmas.{line-refused, last-line-refused}
use Rattle.stream_laws.proofs.StartLemmas.{pending-refused, too-long}
use Rattle.stream_laws.proofs.EndLemmas.{ended, ended-unclosed, not-refused}
use Rattle.far_engine.specs.Stream.{TookLines, TookAll, IsWritten, IsEnd}
use Rattle.far_engine.specs.Runs.{AnswersLines, RunsStream}
use Rattle.far_engine.proofs.InputLemmas.{all-taken}
use Rattle.far_engine.proofs.RefusalLemmas.{IsOfLines, RefusesLines, input-is, input-not-read, input-not-write, input-not-memory, not-usage, not-read, not-long, not-write}

-- all bytes begin with those that were taken
pub all-known : (old new : Option (List ℕ)) (taken all : List ℕ) → Took old new taken → old ≡ Some all → (rest : List ℕ) × (all ≡ taken ++ rest)
all-known (Some old) (Some new) taken all took had = let same : old ≡ all = cc in (new, sym same ∙ took)
all-known (Some old) None taken all took had = absurd took
all-known None new taken all took had = absurd (cc)

-- bytes after others, joined from two parts
pub split-more : (first pending rest : List ℕ) (bytes : List ℕ) → bytes ≡ (first ++ pending) ++ rest → bytes ≡ first ++ (pending ++ rest)
split-more first pending rest bytes is = is ∙ append_assoc first pending rest

module _ {S : Type 0} (source : Source S) (s t u : S) where
  -- one more line was taken
  pub took-closed : (lines : List (List ℕ)) (pending bytes line rest : List ℕ) (old new : ℕ) → TookLines source s t lines pending old
      → Took (source.left t) (source.left u) bytes → pending ++ bytes ≡ line ++ 10 ∷ rest → has_lf line ≡ false → new + length bytes ≡ old
      → source.faults t ≤ source.faults u → TookLines source s u (lines ++ line ∷ []) rest new
  took-closed lines pending bytes line rest old new before took is plain counted later =
      let first = text_of_lines lines in
      let all : (first ++ pending) ++ bytes ≡ text_of_lines (lines ++ line ∷ []) ++ rest =
      append_assoc first pending bytes ∙ ap (λ tail. first ++ tail) is ∙ text-more lines line rest in
      record {
        closed = lines-more lines line before.closed plain;
        took = subst (Took (source.left s) (source.left u)) all (Took-more (source.left s) (source.left t) (source.left u) (first ++ pending) bytes before.took took);
        counted = omega (arith, before.counted, counted, ap length all, length-append (first ++ pending) bytes);
        later = omega (arith, before.later, later);
      }

  -- more bytes were taken, but no line
  pub took-pending : (lines : List (List ℕ)) (pending bytes rest : List ℕ) (old new : ℕ) → TookLines source s t lines pending old
      → Took (source.left t) (source.left u) bytes → pending ++ bytes ≡ rest → new + length bytes ≡ old → source.faults t ≤ source.faults u
      → TookLines source s u lines rest new
  took-pending lines pending bytes rest old new before took is counted later =
      let first = text_of_lines lines in
      let all : (first ++ pending) ++ bytes ≡ first ++ rest = append_assoc first pending bytes ∙ ap (λ tail. first ++ tail) is in
      record {
        closed = before.closed;
        took = subst (Took (source.left s) (source.left u)) all (Took-more (source.left s) (source.left t) (source.left u) (first ++ pending) bytes before.took took);
        counted = omega (arith, before.counted, counted, ap length all, length-append (first ++ pending) bytes);
        later = omega (arith, before.later, later);
      }

  -- all bytes were taken
  pub took-all : (lines : List (List ℕ)) (pending bytes rest : List ℕ) (old new : ℕ) → TookLines source s t lines pending old
      → Took (source.left t) (source.left u) bytes → pending ++ bytes ≡ rest → new + length bytes ≡ old → has_lf rest ≡ false → IsDry (source.left u)
      → source.faults t ≤ source.faults u → TookAll source s u lines rest
  took-all lines pending bytes rest old new before took is counted plain dry later =
      let all = took-pending lines pending bytes rest old new before took is counted later in
      record {
        closed = all.closed;
        plain = plain;
        took = all.took;
        dry = dry;
        short = omega (arith, all.counted);
        later = all.later;
      }

  -- one byte more than the limit was taken
  pub took-long : (lines : List (List ℕ)) (pending bytes rest : List ℕ) (byte old : ℕ) → TookLines source s t lines pending old
      → Took (source.left t) (source.left u) bytes → pending ++ bytes ≡ rest ++ byte ∷ [] → length bytes ≡ old + 1
      → Took (source.left s) (source.left u) (text_of_lines lines ++ (rest ++ byte ∷ [])) × (length (text_of_lines lines ++ rest) ≡ byte_limit)
  took-long lines pending bytes rest byte old before took is more =
      let first = text_of_lines lines in
      let all : (first ++ pending) ++ bytes ≡ first ++ (rest ++ byte ∷ []) = append_assoc first pending bytes ∙ ap (λ tail. first ++ tail) is in (
        subst (Took (source.left s) (source.left u)) all (Took-more (source.left s) (source.left t) (source.left u) (first ++ pending) bytes before.took took),
        omega (arith, before.counted, more, ap length is, length-append pending bytes, length-append rest (byte ∷ []), length-append first pending, length-append first rest),
      )

module _ {S : Type 0} (source : Source S) (rule : LineRule) (s s' : S) where
  -- the end with a refusal for a cause in the lines, or with none
  ends-of-lines : (text : List ℕ) (outcome : Option Fault) → IsOfLines outcome
      → ((bytes : List ℕ) → source.left s ≡ Some bytes → answer_of_lines rule byte_limit bytes ≡ answer_with text outcome)
      → (outcome ≡ None → IsDry (source.left s')) → TookPrefix (source.left s) (source.left s') → source.faults s ≤ source.faults s'
      → IsEnd source rule s s' text outcome
  ends-of-lines text outcome of answer dry taken later = record {
    answer = λ bytes had. inl (answer bytes had);
    so_far = λ e. absurd (not-read of e);
    read = λ e. absurd (not-read of e);
    whole = dry;
    long = λ e. absurd (not-long of e);
    not_usage = λ word e. not-usage of word e;
    not_write = λ e. not-write of e;
    taken = taken;
    later = later;
  }

  -- memory ran out
  pub ends-without-memory : (text : List ℕ) → TookPrefix (source.left s) (source.left s') → source.faults s ≤ source.faults s' → IsEnd source rule s s' text (Some Memory)
  ends-without-memory text taken later = record {
    answer = λ bytes had. inr (inr refl);
    so_far = λ e. absurd (cc);
    read = λ e. absurd (cc);
    whole = λ e. absurd (cc);
    long = λ e. absurd (cc);
    not_usage = λ word e. absurd (cc);
    not_write = λ e. absurd (cc);
    taken = taken;
    later = later;
  }

  module _ (lines : List (List ℕ)) (text : List ℕ) (handled : IsHandled rule lines text) where
    -- a read failed, and no pending byte is refused
    pub ends-failed : (pending : List ℕ) (allowed : ℕ) → TookLines source s s' lines pending allowed → has_lf pending ≡ false → rule.unclosed lines pending ≡ None
        → Rose (source.faults s) (source.faults s') → IsEnd source rule s s' text (Some Read)
    ends-failed pending allowed read plain good rose = record {
      answer = λ bytes had. inr (inl refl);
      so_far = λ e. (text_of_lines lines ++ pending, read.took, not-refused (text_of_lines lines ++ pending) pending handled plain refl good);
      read = λ e. rose;
      whole = λ e. absurd (cc);
      long = λ e. absurd (cc);
      not_usage = λ word e. absurd (cc);
      not_write = λ e. absurd (cc);
      taken = (text_of_lines lines ++ pending, read.took);
      later = read.later;
    }

    -- one byte came after the limit
    pub ends-long : (pending : List ℕ) (byte : ℕ) → Took (source.left s) (source.left s') (text_of_lines lines ++ (pending ++ byte ∷ []))
        → length (text_of_lines lines ++ pending) ≡ byte_limit → has_lf pending ≡ false → rule.unclosed lines pending ≡ None → source.faults s ≤ source.faults s'
        → IsEnd source rule s s' text (Some Long)
    ends-long pending byte took full plain good later =
        let taken = text_of_lines lines ++ (pending ++ byte ∷ []) in
        let first = text_of_lines lines in
        record {
          answer = λ bytes had.
              let known = all-known (source.left s) (source.left s') taken bytes took had in
              let cut : bytes ≡ first ++ (pending ++ byte ∷ known.0) =
              split-more first (pending ++ byte ∷ []) known.0 bytes known.1 ∙ ap (λ tail. first ++ tail) (append_assoc pending (byte ∷ []) known.0) in
              inl (too-long byte_limit bytes pending byte known.0 handled plain full cut good);
          so_far = λ e. absurd (cc);
          read = λ e. absurd (cc);
          whole = λ e. absurd (cc);
          long = λ e. (taken, took, omega (arith, full, length-append first pending, length-append first (pending ++ byte ∷ []), length-append pending (byte ∷ [])));
          not_usage = λ word e. absurd (cc);
          not_write = λ e. absurd (cc);
          taken = (taken, took);
          later = later;
        }

    -- the pending bytes are refused, for any bytes after them
    pub ends-at-start : (pending : List ℕ) (allowed : ℕ) (fault : Fault) → TookLines source s s' lines pending allowed → has_lf pending ≡ false → 0 < length pending
        → IsRefusedStart rule lines pending fault → IsOfLines (Some fault) → IsEnd source rule s s' text (Some fault)
    ends-at-start pending allowed fault read plain some is of =
        let taken = text_of_lines lines ++ pending in
        ends-of-lines text (Some fault) of
        (λ bytes had.
        let known = all-known (source.left s) (source.left s') taken bytes read.took had in
        pending-refused byte_limit bytes known.0 handled is plain some (split-more (text_of_lines lines) pending known.0 bytes known.1) (omega (arith, read.counted)))
        (λ e. absurd (cc)) (taken, read.took) read.later

    -- a closed line is refused
    pub ends-at-line : (line pending : List ℕ) (allowed : ℕ) (fault : Fault) → TookLines source s s' (lines ++ line ∷ []) pending allowed → has_lf line ≡ false
        → rule.line lines line ≡ refused fault → IsOfLines (Some fault) → IsEnd source rule s s' text (Some fault)
    ends-at-line line pending allowed fault read plain is of =
        let first = text_of_lines lines in
        let all = text_of_lines (lines ++ line ∷ []) in
        ends-of-lines text (Some fault) of
        (λ bytes had.
        let known = all-known (source.left s) (source.left s') (all ++ pending) bytes read.took had in
        let fits : length (first ++ (line ++ 10 ∷ [])) ≤ byte_limit = omega (arith, read.counted, length-append all pending, ap length (text-more lines line []), length-append all []) in
        line-refused byte_limit bytes line (pending ++ known.0) fault handled plain is (split-more all pending known.0 bytes known.1 ∙ sym (text-more lines line (pending ++ known.0))) fits)
        (λ e. absurd (cc)) (all ++ pending, read.took) read.later

    module _ (line : List ℕ) (read : TookAll source s s' lines line) where
      whole-known : (bytes : List ℕ) → source.left s ≡ Some bytes → bytes ≡ text_of_lines lines ++ line
      whole-known bytes had = sym (all-taken (source.left s) (source.left s') (text_of_lines lines ++ line) bytes read.took read.dry had)

      fits-all : (bytes : List ℕ) → source.left s ≡ Some bytes → length bytes ≤ byte_limit
      fits-all bytes had = omega (arith, ap length (whole-known bytes had), read.short)

      -- a last line without a line feed is refused
      pub ends-at-last : (fault : Fault) → 0 < length line → rule.line lines line ≡ refused fault → IsOfLines (Some fault) → IsEnd source rule s s' text (Some fault)
      ends-at-last fault some is of =
          ends-of-lines text (Some fault) of
          (λ bytes had. last-line-refused byte_limit bytes line fault handled read.plain some is (whole-known bytes had) (fits-all bytes had))
          (λ e. absurd (cc)) (text_of_lines lines ++ line, read.took) read.later

      -- a last line adds a text, and the end decides
      pub ends-after-last : (more : List ℕ) (refusal : Option Fault) → 0 < length line → rule.line lines line ≡ answer_with more None
          → rule.end (lines ++ line ∷ []) ≡ answer_with [] refusal → IsOfLines refusal → IsEnd source rule s s' (text ++ more) refusal
      ends-after-last more refusal some added end of =
          ends-of-lines (text ++ more) refusal of
          (λ bytes had. ended-unclosed byte_limit bytes line more refusal handled read.plain some (whole-known bytes had) (fits-all bytes had) added end)
          (λ e. read.dry) (text_of_lines lines ++ line, read.took) read.later

    -- the end decides after closed lines
    pub ends-after-lines : (read : TookAll source s s' lines []) (refusal : Option Fault) → rule.end lines ≡ answer_with [] refusal → IsOfLines refusal → IsEnd source rule s s' text refusal
    ends-after-lines read refusal end of =
        ends-of-lines text refusal of
        (λ bytes had. ended byte_limit bytes refusal handled (whole-known [] read bytes had ∙ append-nil (text_of_lines lines)) (fits-all [] read bytes had) end)
        (λ e. read.dry) (text_of_lines lines ++ [], read.took) read.later

-- nothing was written
pub written-nothing : {K : Type 0} (sink : Sink K) (k : K) → IsWritten sink k k []
written-nothing sink k = record { added = added-nothing (sink.held k); later = omega arith; fixed = refl }
  where
    added-nothing : (o : Option (List ℕ)) → Added o o []
    added-nothing (Some old) = sym (append-nil old)
    added-nothing None = tt

-- one text and then another were written
pub written-more : {K : Type 0} (sink : Sink K) (k l m : K) (text more : List ℕ) → IsWritten sink k l text → IsWritten sink l m more → IsWritten sink k m (text ++ more)
written-more sink k l m text more first second = record {
  added = Added-more (sink.held k) (sink.held l) (sink.held m) text more first.added second.added;
  later = omega (arith, first.later, second.later);
  fixed = second.fixed ∙ first.fixed;
}

pub rose-later : (start old new : ℕ) → start ≤ old → Rose old new → Rose start new
rose-later start old new later (inl rose) = inl (omega (arith, later, rose))
rose-later start old new later (inr end) = inr end

-- an empty text is a prefix of an empty text
middle-nil : (text more rest : List ℕ) → text ++ (more ++ rest) ≡ [] → more ≡ []
middle-nil [] [] rest e = refl
middle-nil [] (b ∷ more) rest e = absurd (cc)
middle-nil (b ∷ text) more rest e = absurd (cc)

module _ {S K : Type 0} (source : Source S) (sink : Sink K) {rule : LineRule} (refuses : RefusesLines rule) (s s' : S) (k : K) where
  -- A stream that ends with another outcome than Write.
  pub runs-end : (k' : K) (text : List ℕ) (outcome : Option Fault) → IsEnd source rule s s' text outcome → IsWritten sink k k' text → (outcome ≡ Some Memory → k' ≡ k)
      → RunsStream source sink rule s s' k k' outcome
  runs-end k' text outcome is written kept = record {
    ran = record {
      not_usage = is.not_usage;
      read = is.read;
      write = λ e. absurd (is.not_write e);
      taken = is.taken;
      added = (text, written.added);
      source_later = is.later;
      sink_later = written.later;
      sink_fixed = written.fixed;
    };
    answer = λ bytes had. answers bytes (is.answer bytes had);
    whole = is.whole;
    long = is.long;
    so_far = λ e.
        let found = is.so_far e in (
          found.0,
          found.1,
          ap (λ (a : Answer). a.refusal) found.2,
          subst (Added (sink.held k) (sink.held k')) (sym (ap (λ (a : Answer). a.text) found.2)) written.added,
        );
    prefix = λ e. absurd (is.not_write e);
    kept = kept;
  }
    where
      answers : (bytes : List ℕ) → (answer_of_lines rule byte_limit bytes ≡ answer_with text outcome) ⊎ ((outcome ≡ Some Read) ⊎ (outcome ≡ Some Memory))
          → AnswersLines sink (answer_of_lines rule byte_limit bytes) k k' outcome
      answers bytes (inl same) = record {
        answered = inl (sym (ap (λ (a : Answer). a.refusal) same));
        text = λ e. subst (Added (sink.held k) (sink.held k')) (sym (ap (λ (a : Answer). a.text) same)) written.added;
        prefix = λ e. absurd (is.not_write e);
      }
      answers bytes (inr (inl read)) = record {
        answered = inr (inl read);
        text = λ e. absurd (input-not-read (input-is refuses byte_limit bytes) (sym e ∙ read));
        prefix = λ e. absurd (is.not_write e);
      }
      answers bytes (inr (inr memory)) = record {
        answered = inr (inr (inr memory));
        text = λ e. absurd (input-not-memory (input-is refuses byte_limit bytes) (sym e ∙ memory));
        prefix = λ e. absurd (is.not_write e);
      }

  -- A write failed, in the text of a line.
  module _ (k1 k' : K) (text more : List ℕ) (written : IsWritten sink k k1 text) (cut : AddedPrefix (sink.held k1) (sink.held k') more) where
    -- a prefix of a text is a prefix of each text that begins with it
    added-of : (all rest : List ℕ) → all ≡ text ++ (more ++ rest) → AddedPrefix (sink.held k) (sink.held k') all
    added-of all rest is =
        let n = length text + cut.0 in
        let part : take n all ≡ text ++ take cut.0 more =
        ap (take n) is ∙ take-append-add text (more ++ rest) cut.0 ∙ ap (λ tail. text ++ tail) (take-append-le cut.0 more rest cut.1) in (
          n,
          omega (arith, cut.1, ap length is, length-append text (more ++ rest), length-append more rest),
          subst (Added (sink.held k) (sink.held k')) (sym part) (Added-more (sink.held k) (sink.held k1) (sink.held k') text (take cut.0 more) written.added cut.2),
        )

    pub runs-cut : (taken rest : List ℕ) → Took (source.left s) (source.left s') taken → source.faults s ≤ source.faults s'
        → (answer_of_all rule taken).text ≡ text ++ (more ++ rest) → (more ≡ [] → ⊥)
        → ((bytes : List ℕ) → source.left s ≡ Some bytes → (after : List ℕ) × ((answer_of_lines rule byte_limit bytes).text ≡ text ++ (more ++ after)))
        → Rose (sink.faults k1) (sink.faults k') → sink.faults k1 ≤ sink.faults k' → sink.fixed k' ≡ sink.fixed k1 → RunsStream source sink rule s s' k k' (Some Write)
    runs-cut taken rest took later is some begins rose sink_later fixed =
        let added = added-of (answer_of_all rule taken).text rest is in
        record {
          ran = record {
            not_usage = λ word e. absurd (cc);
            read = λ e. absurd (cc);
            write = λ e. rose-later (sink.faults k) (sink.faults k1) (sink.faults k') written.later rose;
            taken = (taken, took);
            added = (take added.0 (answer_of_all rule taken).text, added.2);
            source_later = later;
            sink_later = omega (arith, written.later, sink_later);
            sink_fixed = fixed ∙ written.fixed;
          };
          answer = λ bytes had. record {
            answered = inr (inr (inl refl));
            text = λ e. absurd (input-not-write (input-is refuses byte_limit bytes) (sym e));
            prefix = λ e. let found = begins bytes had in added-of (answer_of_lines rule byte_limit bytes).text found.0 found.1;
          };
          whole = λ e. absurd (cc);
          long = λ e. absurd (cc);
          so_far = λ e. absurd (cc);
          prefix = λ e. (taken, took, λ none. some (middle-nil text more rest (sym is ∙ none)), added);
          kept = λ e. absurd (cc);
        }

-- two answers, one after the other, begin with each prefix of the first
then-begins : (text : List ℕ) (first next : Answer) → (rest : List ℕ) × ((then_answer (after_text text first) next).text ≡ text ++ rest)
then-begins text first next = by first.refusal
  where
    by : (refusal : Option Fault) → (rest : List ℕ) × ((answer_unless_refused refusal (text ++ first.text) next).text ≡ text ++ rest)
    by None = (first.text ++ next.text, append_assoc text first.text next.text)
    by (Some fault) = (first.text, refl)

-- the text of handled lines stays for any bytes after them, even too many
pub begins-handled : {rule : LineRule} {lines : List (List ℕ)} {text : List ℕ} (limit : ℕ) (more : List ℕ) → IsHandled rule lines text → length (text_of_lines lines) ≤ limit
    → (rest : List ℕ) × ((answer_of_lines rule limit (text_of_lines lines ++ more)).text ≡ text ++ rest)
begins-handled {rule = rule} {lines = lines} {text = text} limit more handled fits =
    let first = text_of_lines lines in
    ⊎_elim (λ long.
    let cut = take (limit - length (first ++ [])) more in
    let begins = then-begins text (so-far-of rule lines cut) (refused Long) in (
      begins.0,
      ap (λ (a : Answer). a.text)
          (past rule limit (first ++ more) long
          ∙ ap (λ bytes. then_answer (answer_so_far rule bytes) (refused Long)) (take-parts first [] more limit (omega (arith, fits, length-append first [])))
          ∙ ap (λ answer. then_answer answer (refused Long)) (so-far-after cut handled))
          ∙ begins.1,
    ))
    (λ short. ((all-of rule lines more).text, ap (λ (a : Answer). a.text) (within rule limit (first ++ more) short ∙ all-after more handled)))
    (cases_lt limit (length (first ++ more)))

-- the text of one more line stays too
pub begins-line : {rule : LineRule} {lines : List (List ℕ)} {text : List ℕ} (limit : ℕ) (line rest : List ℕ) → IsHandled rule lines text → has_lf line ≡ false
    → (rule.line lines line).refusal ≡ None → length (text_of_lines (lines ++ line ∷ [])) ≤ limit
    → (after : List ℕ) × ((answer_of_lines rule limit (text_of_lines (lines ++ line ∷ []) ++ rest)).text ≡ text ++ ((rule.line lines line).text ++ after))
begins-line {rule = rule} {lines = lines} {text = text} limit line rest handled plain good fits =
    let added = rule.line lines line in
    let more = handled-more handled plain (ap (λ r. record { text = added.text; refusal = r }) good) in
    let begins = begins-handled limit rest more fits in
    (begins.0, begins.1 ∙ append_assoc text added.text begins.0)
