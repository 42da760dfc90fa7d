-- The frame lines, one after another: the moves of a reader, the answers, and the end of the run.
use Rattle.std.proofs.Common.{◌≡◌, ℕ, suc, ◌+◌, ◌-◌, ◌<◌, ◌≤◌, Bool, true, false, List, [], ◌∷◌, ◌++◌, ◌⊎◌, inl, inr, length, Option, Some, None, Result, Ok, Err, arith, refl, ap, sym, subst, ◌∙◌, length-append, if◌then◌else◌}
use Rattle.std.proofs.lemmas.List.Sums.{sum_by-append}
use Rattle.far_io.specs.Bytes.{Rose, Took, AddedPrefix}
use Rattle.far_io.specs.Lines.{LineInput, ReadsLine}
use Rattle.far_io.specs.declared.source.Source.{Ghosts as Source}
use Rattle.far_io.specs.declared.source.ReadFailed.{ReadFailed}
use Rattle.far_io.specs.declared.sink.Sink.{Ghosts as Sink}
use Rattle.far_io.specs.declared.lines.NextLine.{NextLine}
use Rattle.far_io.specs.declared.lines.NextLine.TheVariants.{Closed, Last, End, Full, Long}
use Rattle.far_io.specs.declared.text.NextText.TheVariants as text
use Rattle.subdiv_model.specs.Fault as model
use Rattle.subdiv_model.specs.Fault.{Fault, Obj}
use Rattle.subdiv_model.specs.ObjFault.{LongLine}
use Rattle.subdiv_model.specs.ObjLine.{line_words}
use Rattle.subdiv_model.specs.ObjMesh.{ObjMesh}
use Rattle.far_model.specs.Command.{FramesOptions, Frames, Streams}
use Rattle.far_model.specs.Refusal.{Answer, refused, answer_unless}
use Rattle.far_model.specs.Frames.{frame_answer, frame_fault, frame_text, frame_at, is_go_line}
use Rattle.far_model.specs.Answer.{frames_refusal, frames_mesh, rule_of, byte_limit}
use Rattle.far_fault.specs.View.{fault_of}
use Rattle.far_fault.specs.declared.fault.FarFault.{FarFault}
use Rattle.far_fault.specs.declared.fault.FarFault.TheVariants as answered
use Rattle.stream_laws.specs.Handled.{text_of_lines}
use Rattle.stream_laws.specs.Laws.{have_frames, mesh_words, frame_words, answer_with}
use Rattle.far_model.specs.Stream.{answer_of_lines}
use Rattle.stream_laws.proofs.BytesLemmas.{within}
use Rattle.stream_laws.proofs.CutLemmas.{text-more}
use Rattle.stream_laws.proofs.HandledLemmas.{handled-more}
use Rattle.stream_laws.proofs.EndLemmas.{written-stays, last-written-stays}
use Rattle.stream_laws.proofs.FrameLemmas.{line-stays, line-mesh_stays, line-frame}
use Rattle.stream_laws.proofs.RuleLemmas.{frame-line, frames-end, unclosed-short, long-refused}
use Rattle.table_answers.specs.Posed.{Posed, IsPosedAfter}
use Rattle.table_answers.specs.FrameAnswers.{Answers, AnswersLine}
use Rattle.table_answers.specs.FrameStepCounts.{line_steps, start_least, frames_limit}
use Rattle.far_engine.specs.Runs.{RunsStream}
use Rattle.far_engine.specs.StepCounts.{TakesSteps}
use Rattle.far_engine.specs.Stream.{TookLines, IsWritten, IsEnd}
use Rattle.far_engine.specs.FrameLines.{IsAtFrames, IsAtClosed, IsAtLast, IsAtEnd, Origin, IsStreaming, RunsFrames, GoesOn, MovesOn, next_of}
use Rattle.far_engine.specs.declared.frame_lines.FrameLines.{FrameLines}
use Rattle.far_engine.proofs.RefusalLemmas.{IsOfLines, frames-refuses, not-memory}
use Rattle.far_engine.proofs.InputLemmas.{all-taken}
use Rattle.far_engine.proofs.StepLemmas.{HasFrameLines, has-last, takes-lines, takes-steps}
use Rattle.far_engine.proofs.StreamLemmas.{all-known, split-more, begins-line, took-closed, took-pending, took-all, took-long, ends-failed, ends-long, ends-at-start, ends-at-line, ends-at-last, ends-after-last, ends-after-lines, written-more, rose-later, runs-end, runs-cut}

-- a closed line and its line feed are passed
pub line-shorter : {S : Type 0} (source : Source S) (t u : S) (old new : LineInput) → ReadsLine source old new t u (Ok Closed)
    → length new.pending + new.allowed < length old.pending + old.allowed
line-shorter source t u old new reads =
    omega (arith, ap length reads.next.0, length-append old.pending reads.bytes, length-append new.line (10 ∷ new.pending), reads.counted)

-- A reader moves on.
module _ {S : Type 0} (source : Source S) (options : FramesOptions) (s t u : S) (lines : List (List ℕ)) (text : List ℕ) (old : FrameLines) (new : LineInput)
    (at : IsAtFrames source options s t lines text old) where
  not-refused : (pending : List ℕ) → length pending ≤ 65535 → (rule_of (Frames options)).unclosed lines pending ≡ None
  not-refused pending few = unclosed-short options.depth (frames_refusal options) (frames_mesh options) lines pending few

  pub moves-closed : ReadsLine source old.reader new t u (Ok Closed) → IsAtClosed source s u lines new
  moves-closed reads = record {
    took = took-closed source s t u lines old.reader.pending reads.bytes new.line new.pending old.reader.allowed new.allowed at.took reads.took reads.next.0 reads.next.1 reads.counted reads.later;
    plain = reads.next.1;
    room = reads.room ∙ at.room;
  }

  pub moves-last : ReadsLine source old.reader new t u (Ok Last) → IsAtLast source s u lines new
  moves-last reads = record {
    took = took-all source s t u lines old.reader.pending reads.bytes new.line old.reader.allowed new.allowed at.took reads.took reads.next.0 reads.counted reads.next.1 reads.next.4 reads.later;
    some = reads.next.2;
  }

  pub moves-end : ReadsLine source old.reader new t u (Ok End) → IsAtEnd source options s u lines text None
  moves-end reads =
      let all = took-all source s t u lines old.reader.pending reads.bytes [] old.reader.allowed new.allowed at.took reads.took reads.next.0 reads.counted refl reads.next.3 reads.later in
      record {
        ended = ends-after-lines source (rule_of (Frames options)) s u lines text at.handled all None (frames-end options.depth (frames_refusal options) (frames_mesh options) lines at.frames) tt;
        not_memory = λ e. absurd (cc);
        more = [];
        took = all.took;
      }

  -- the pending bytes are a line without a line feed
  moves-pending : (bytes : List ℕ) → Took (source.left t) (source.left u) bytes → old.reader.pending ++ bytes ≡ new.pending
      → new.allowed + length bytes ≡ old.reader.allowed → source.faults t ≤ source.faults u → TookLines source s u lines new.pending new.allowed
  moves-pending bytes took is counted later = took-pending source s t u lines old.reader.pending bytes new.pending old.reader.allowed new.allowed at.took took is counted later

  pub moves-full : (number : ℕ) → number ≡ old.passed + 1 → ReadsLine source old.reader new t u (Ok Full)
      → IsAtEnd source options s u lines text (Some (Obj (record { line = number; cause = LongLine })))
  moves-full number same reads =
      let long : 65535 < length new.pending = omega (arith, reads.next.2, reads.room, at.room) in
      let took = moves-pending reads.bytes reads.took reads.next.0 reads.counted reads.later in
      let here : number ≡ suc (length lines) = omega (arith, same, at.passed) in
      record {
        ended =
            subst (λ n. IsEnd source (rule_of (Frames options)) s u text (Some (Obj (record { line = n; cause = LongLine })))) (sym here)
            (ends-at-start source (rule_of (Frames options)) s u lines text at.handled new.pending new.allowed (Obj (record { line = suc (length lines); cause = LongLine })) took
            reads.next.1 (omega (arith, long)) (long-refused options.depth (frames_refusal options) (frames_mesh options) lines new.pending at.frames long) tt);
        not_memory = λ e. absurd (cc);
        more = new.pending;
        took = took.took;
      }

  pub moves-long : ReadsLine source old.reader new t u (Ok Long) → IsAtEnd source options s u lines text (Some model.Long)
  moves-long reads =
      let byte = reads.next.0.0 in
      let took = took-long source s t u lines old.reader.pending reads.bytes new.pending byte old.reader.allowed at.took reads.took reads.next.0.1 reads.counted.0 in
      let few : length new.pending ≤ 65535 = omega (arith, reads.next.2, reads.room, at.room) in
      record {
        ended =
            ends-long source (rule_of (Frames options)) s u lines text at.handled new.pending byte took.0 took.1 reads.next.1 (not-refused new.pending few)
            (omega (arith, at.took.later, reads.later));
        not_memory = λ e. absurd (cc);
        more = new.pending ++ byte ∷ [];
        took = took.0;
      }

  pub moves-failed : (failed : ReadFailed) → ReadsLine source old.reader new t u (Err failed) → IsAtEnd source options s u lines text (Some model.Read)
  moves-failed failed reads =
      let took = moves-pending reads.bytes reads.took reads.next.0 reads.counted reads.later in
      let few : length new.pending ≤ 65535 = omega (arith, reads.next.2, reads.room, at.room) in
      record {
        ended =
            ends-failed source (rule_of (Frames options)) s u lines text at.handled new.pending new.allowed took reads.next.1 (not-refused new.pending few)
            (rose-later (source.faults s) (source.faults t) (source.faults u) at.took.later reads.cause);
        not_memory = λ e. absurd (cc);
        more = new.pending;
        took = took.took;
      }

  -- the result of a move, for any bytes
  pub moves-on : (number : ℕ) → number ≡ old.passed + 1 → (found : Result NextLine ReadFailed) → ReadsLine source old.reader new t u found
      → MovesOn source options s u lines text new (next_of number found)
  moves-on number same (Ok Closed) reads = moves-closed reads
  moves-on number same (Ok Last) reads = moves-last reads
  moves-on number same (Ok End) reads = moves-end reads
  moves-on number same (Ok Full) reads = moves-full number same reads
  moves-on number same (Ok Long) reads = moves-long reads
  moves-on number same (Err failed) reads = moves-failed failed reads

-- a line was closed
pub found-shorter : {S : Type 0} (source : Source S) (t u : S) (old new : LineInput) (number : ℕ) (found : Result NextLine ReadFailed) → next_of number found ≡ Ok text.Closed
    → ReadsLine source old new t u found → length new.pending + new.allowed < length old.pending + old.allowed
found-shorter source t u old new number (Ok Closed) is reads = line-shorter source t u old new reads
found-shorter source t u old new number (Ok Last) is reads = absurd (cc)
found-shorter source t u old new number (Ok End) is reads = absurd (cc)
found-shorter source t u old new number (Ok Full) is reads = absurd (cc)
found-shorter source t u old new number (Ok Long) is reads = absurd (cc)
found-shorter source t u old new number (Err failed) is reads = absurd (cc)

-- an answer is refused, or no part of it is
unless-refused : (fault : Option Fault) (text : List ℕ) (other : Fault) → (answer_unless fault text).refusal ≡ Some other → answer_unless fault text ≡ refused other
unless-refused (Some fault) text other e = ap (λ (r : Option Fault). record { text = []; refusal = r }) e
unless-refused None text other e = absurd (cc)

not-refused-answer : (answer : Answer) → answer.refusal ≡ None → answer ≡ answer_with answer.text None
not-refused-answer answer e = ap (λ r. record { text = answer.text; refusal = r }) e

-- the meaning of a fault of an answer: a write failed in its text, or it is the refusal
pub record IsCut {K : Type 0} (sink : Sink K) (answer : Answer) (k k' : K) : Type 0 where
  pub good : answer.refusal ≡ None
  pub some : answer.text ≡ [] → ⊥
  pub part : AddedPrefix (sink.held k) (sink.held k') answer.text
  pub rose : Rose (sink.faults k) (sink.faults k')

abbrev FaultOf : {K : Type 0} → Sink K → Answer → K → K → FarFault → Type 0
FaultOf sink answer k k' fault = ((fault_of fault ≡ model.Write) × IsCut sink answer k k') ⊎ ((answer.refusal ≡ Some (fault_of fault)) × (k' ≡ k))

fault-of : {K : Type 0} (sink : Sink K) (answer : Answer) (k k' : K) (fault : FarFault) → Answers sink answer k k' (Err fault) → FaultOf sink answer k k' fault
fault-of sink answer k k' answered.Write is = inl (refl, record { good = is.0; some = is.1; part = is.2; rose = is.3 })
fault-of sink answer k k' (answered.Usage word) is = inr is
fault-of sink answer k k' answered.Read is = inr is
fault-of sink answer k k' answered.Long is = inr is
fault-of sink answer k k' (answered.Obj line cause) is = inr is
fault-of sink answer k k' (answered.Mesh fault) is = inr is
fault-of sink answer k k' (answered.TooLarge counted) is = inr is
fault-of sink answer k k' (answered.Overflow track level kind) is = inr is
fault-of sink answer k k' (answered.Limit cause) is = inr is
fault-of sink answer k k' (answered.Place fault) is = inr is
fault-of sink answer k k' (answered.Table line cause) is = inr is
fault-of sink answer k k' (answered.Differs row) is = inr is
fault-of sink answer k k' (answered.Controls count) is = inr is
fault-of sink answer k k' answered.Memory is = inr is

-- All lines so far are answered, and a reader moves on.
module _ {S K : Type 0} (source : Source S) (sink : Sink K) (from : Origin source sink) (t : S) (k : K) (at : FrameLines) (posed : Posed) (n : ℕ)
    (is : IsStreaming from t k at posed n) where
  abbrev depth-of : ℕ
  depth-of = from.options.depth

  abbrev mesh-of : ObjMesh
  mesh-of = frames_mesh from.options (mesh_words is.lines)

  -- the run ends before a line is answered
  pub stream-ends : (u : S) (outcome : Option Fault) → IsAtEnd source from.options from.first u is.lines is.text outcome → RunsFrames from u k outcome n
  stream-ends u outcome end = record {
    run = runs-end source sink (frames-refuses from.options) from.first u from.before k is.text outcome end.ended is.written (λ e. absurd (end.not_memory e));
    taken =
        takes-lines source from.options from.first u is.lines end.more is.read.took.closed is.read.frames end.took outcome from.steps n
        (omega (arith, is.least)) (λ e. is.least) is.most;
  }

  module _ (u : S) (reader : LineInput) (number : ℕ) (same : number ≡ at.passed + 1) (k' : K) (posed' : Posed) (n' : ℕ) (later : n ≤ n') where
    abbrev line : List ℕ
    line = reader.line

    abbrev answer-of : Answer
    answer-of = (rule_of (Frames from.options)).line is.lines line

    -- a frame line is answered
    answer-is : answer-of ≡ frame_answer posed.depth mesh-of (frame_words is.lines) number line
    answer-is =
        let here : number ≡ suc (length is.lines) = omega (arith, same, is.read.passed) in
        frame-line from.options.depth (frames_refusal from.options) (frames_mesh from.options) is.lines line is.read.frames
        ∙ ap (λ d. frame_answer d mesh-of (frame_words is.lines) (suc (length is.lines)) line) (sym is.depth)
        ∙ ap (λ m. frame_answer posed.depth mesh-of (frame_words is.lines) m line) (sym here)

    abbrev AnswersHere : Result (Unit {0}) FarFault → Type 0
    AnswersHere r = AnswersLine sink mesh-of (frame_words is.lines) number line posed posed' k k' r (n' - n)

    answers-rule : (r : Result (Unit {0}) FarFault) → AnswersHere r → Answers sink answer-of k k' r
    answers-rule r answers = subst (λ a. Answers sink a k k' r) (sym answer-is) answers.answers

    refused-rule : (fault : Fault) → answer-of.refusal ≡ Some fault → answer-of ≡ refused fault
    refused-rule fault e =
        answer-is ∙ unless-refused (frame_fault posed.depth mesh-of number line) (if is_go_line (line_words line) then frame_text posed.depth mesh-of (frame_at mesh-of (frame_words is.lines)) else [])
        fault (ap (λ (a : Answer). a.refusal) (sym answer-is) ∙ e)

    of-lines : (fault : Fault) → answer-of.refusal ≡ Some fault → IsOfLines (Some fault)
    of-lines fault e = subst IsOfLines e ((frames-refuses from.options).line is.lines line)

    -- a frame line is answered, with its steps
    mesh-stays : frames_mesh from.options (mesh_words (is.lines ++ line ∷ [])) ≡ mesh-of
    mesh-stays = ap (frames_mesh from.options) (line-mesh_stays is.lines line is.read.frames)

    most-here : (r : Result (Unit {0}) FarFault) → AnswersHere r → n' ≤ from.steps + frames_limit depth-of mesh-of (frame_words is.lines ++ line_words line ∷ [])
    most-here r answers =
        let f = line_steps depth-of mesh-of in
        let few : n' - n ≤ f (line_words line) = subst (λ d. n' - n ≤ line_steps d mesh-of (line_words line)) is.depth answers.steps in
        omega (arith, few, later, is.most, sum_by-append f (frame_words is.lines) (line_words line ∷ []))

    least-here : from.steps + start_least depth-of mesh-of ≤ n'
    least-here = omega (arith, is.least, later)

    module _ (moved : IsAtClosed source from.first u is.lines reader) where
      frames-here : have_frames (is.lines ++ line ∷ []) ≡ true
      frames-here = line-stays is.lines line is.read.frames

      frame-here : frame_words (is.lines ++ line ∷ []) ≡ frame_words is.lines ++ line_words line ∷ []
      frame-here = line-frame is.lines line is.read.frames

      most-after : (r : Result (Unit {0}) FarFault) → AnswersHere r
          → n' ≤ from.steps + frames_limit depth-of (frames_mesh from.options (mesh_words (is.lines ++ line ∷ []))) (frame_words (is.lines ++ line ∷ []))
      most-after r answers =
          subst (λ m. n' ≤ from.steps + frames_limit depth-of m (frame_words (is.lines ++ line ∷ []))) (sym mesh-stays)
          (subst (λ ws. n' ≤ from.steps + frames_limit depth-of mesh-of ws) (sym frame-here) (most-here r answers))

      least-after : from.steps + start_least depth-of (frames_mesh from.options (mesh_words (is.lines ++ line ∷ []))) ≤ n'
      least-after = subst (λ m. from.steps + start_least depth-of m ≤ n') (sym mesh-stays) least-here

      -- the text of the line is in the answer to all bytes
      begins : (bytes : List ℕ) → source.left from.first ≡ Some bytes → answer-of.refusal ≡ None
          → (after : List ℕ) × ((answer_of_lines (rule_of (Frames from.options)) byte_limit bytes).text ≡ is.text ++ (answer-of.text ++ after))
      begins bytes had good =
          let first = text_of_lines (is.lines ++ line ∷ []) in
          let known = all-known (source.left from.first) (source.left u) (first ++ reader.pending) bytes moved.took.took had in
          let found = begins-line byte_limit line (reader.pending ++ known.0) is.read.handled moved.plain good (omega (arith, moved.took.counted, length-append first reader.pending)) in
          (found.0, ap (λ all. (answer_of_lines (rule_of (Frames from.options)) byte_limit all).text) (split-more first reader.pending known.0 bytes known.1) ∙ found.1)

      -- a closed line is answered
      pub stream-goes-on : (at2 : FrameLines) → at2.reader ≡ reader → at2.passed ≡ number → AnswersHere (Ok tt) → IsStreaming from u k' at2 posed' n'
      stream-goes-on at2 kept passed answers =
          let good = answers-rule (Ok tt) answers in
          record {
            lines = is.lines ++ line ∷ [];
            text = is.text ++ answer-of.text;
            read = record {
              took = subst (λ (r : LineInput). TookLines source from.first u (is.lines ++ line ∷ []) r.pending r.allowed) (sym kept) moved.took;
              handled = handled-more is.read.handled moved.plain (not-refused-answer answer-of good.0);
              frames = frames-here;
              room = subst (λ (r : LineInput). r.room ≡ 65536) (sym kept) moved.room;
              passed = omega (arith, passed, same, is.read.passed, length-append is.lines (line ∷ []));
            };
            written = written-more sink from.before k k' is.text answer-of.text is.written (record { added = good.1; later = answers.later; fixed = answers.fixed });
            posed_after =
                subst (λ m. IsPosedAfter m (frame_words (is.lines ++ line ∷ [])) posed') (sym mesh-stays)
                (subst (λ ws. IsPosedAfter mesh-of ws posed') (sym frame-here) answers.posed);
            depth = answers.depth ∙ is.depth;
            least = least-after;
            most = most-after (Ok tt) answers;
          }

      -- a closed line is refused, or its answer is cut
      pub stream-fails : (fault : FarFault) → AnswersHere (Err fault) → RunsFrames from u k' (Some (fault_of fault)) n'
      stream-fails fault answers = record {
        run = run-fails (fault-of sink answer-of k k' fault (answers-rule (Err fault) answers));
        taken =
            takes-lines source from.options from.first u (is.lines ++ line ∷ []) reader.pending moved.took.closed frames-here moved.took.took (Some (fault_of fault)) from.steps n'
            (omega (arith, is.least, later)) (λ e. absurd (cc)) (most-after (Err fault) answers);
      }
        where
          run-fails : FaultOf sink answer-of k k' fault → RunsStream source sink (rule_of (Frames from.options)) from.first u from.before k' (Some (fault_of fault))
          run-fails (inl cut) =
              let taken = text_of_lines (is.lines ++ line ∷ []) ++ reader.pending in
              let stays = written-stays taken line reader.pending is.read.handled moved.plain cut.1.good (sym (text-more is.lines line reader.pending)) in
              subst (λ f. RunsStream source sink (rule_of (Frames from.options)) from.first u from.before k' (Some f)) (sym cut.0)
              (runs-cut source sink (frames-refuses from.options) from.first u from.before k k' is.text answer-of.text is.written cut.1.part taken stays.0 moved.took.took moved.took.later stays.1 cut.1.some
              (λ bytes had. begins bytes had cut.1.good) cut.1.rose answers.later answers.fixed)
          run-fails (inr refusal) =
              runs-end source sink (frames-refuses from.options) from.first u from.before k' is.text (Some (fault_of fault))
              (ends-at-line source (rule_of (Frames from.options)) from.first u is.lines is.text is.read.handled line reader.pending reader.allowed (fault_of fault) moved.took moved.plain
              (refused-rule (fault_of fault) refusal.0) (of-lines (fault_of fault) refusal.0))
              (subst (λ l. IsWritten sink from.before l is.text) (sym refusal.1) is.written)
              (λ e. absurd (not-memory (of-lines (fault_of fault) refusal.0) e))

    module _ (moved : IsAtLast source from.first u is.lines reader) where
      takes-last : (r : Result (Unit {0}) FarFault) (outcome : Option Fault) → AnswersHere r → TakesSteps source (Streams (Frames from.options)) from.first u outcome from.steps n'
      takes-last r outcome answers =
          let taken = text_of_lines is.lines ++ line in
          let has = has-last is.lines line is.read.took.closed is.read.frames moved.took.plain moved.some in
          takes-steps source from.options from.first u (mesh_words is.lines) (frame_words is.lines ++ line_words line ∷ []) outcome from.steps n' (omega (arith, is.least, later)) (λ e. least-here)
          (most-here r answers) taken moved.took.took has
          (λ all had. subst (λ bytes. HasFrameLines bytes (mesh_words is.lines) (frame_words is.lines ++ line_words line ∷ []))
          (all-taken (source.left from.first) (source.left u) taken all moved.took.took moved.took.dry had) has)

      -- the text of the last line is in the answer to all bytes
      begins-last : (bytes : List ℕ) → source.left from.first ≡ Some bytes → answer-of.refusal ≡ None
          → (after : List ℕ) × ((answer_of_lines (rule_of (Frames from.options)) byte_limit bytes).text ≡ is.text ++ (answer-of.text ++ after))
      begins-last bytes had good =
          let taken = text_of_lines is.lines ++ line in
          let same = all-taken (source.left from.first) (source.left u) taken bytes moved.took.took moved.took.dry had in
          let found = last-written-stays taken line is.read.handled moved.took.plain moved.some good refl in (
            found.0,
            ap (λ all. (answer_of_lines (rule_of (Frames from.options)) byte_limit all).text) (sym same)
                ∙ ap (λ (a : Answer). a.text) (within (rule_of (Frames from.options)) byte_limit taken moved.took.short)
                ∙ found.1,
          )

      -- a last line without a line feed is answered
      pub stream-stops : AnswersHere (Ok tt) → RunsFrames from u k' None n'
      stream-stops answers =
          let good = answers-rule (Ok tt) answers in
          let lines = is.lines ++ line ∷ [] in
          record {
            run =
                runs-end source sink (frames-refuses from.options) from.first u from.before k' (is.text ++ answer-of.text) None
                (ends-after-last source (rule_of (Frames from.options)) from.first u is.lines is.text is.read.handled line moved.took answer-of.text None moved.some (not-refused-answer answer-of good.0)
                (frames-end from.options.depth (frames_refusal from.options) (frames_mesh from.options) lines (line-stays is.lines line is.read.frames)) tt)
                (written-more sink from.before k k' is.text answer-of.text is.written (record { added = good.1; later = answers.later; fixed = answers.fixed }))
                (λ e. absurd (cc));
            taken = takes-last (Ok tt) None answers;
          }

      -- a last line is refused, or its answer is cut
      pub stream-fails-last : (fault : FarFault) → AnswersHere (Err fault) → RunsFrames from u k' (Some (fault_of fault)) n'
      stream-fails-last fault answers = record {
        run = run-fails (fault-of sink answer-of k k' fault (answers-rule (Err fault) answers));
        taken = takes-last (Err fault) (Some (fault_of fault)) answers;
      }
        where
          run-fails : FaultOf sink answer-of k k' fault → RunsStream source sink (rule_of (Frames from.options)) from.first u from.before k' (Some (fault_of fault))
          run-fails (inl cut) =
              let taken = text_of_lines is.lines ++ line in
              let stays = last-written-stays taken line is.read.handled moved.took.plain moved.some cut.1.good refl in
              subst (λ f. RunsStream source sink (rule_of (Frames from.options)) from.first u from.before k' (Some f)) (sym cut.0)
              (runs-cut source sink (frames-refuses from.options) from.first u from.before k k' is.text answer-of.text is.written cut.1.part taken stays.0 moved.took.took moved.took.later stays.1 cut.1.some
              (λ bytes had. begins-last bytes had cut.1.good) cut.1.rose answers.later answers.fixed)
          run-fails (inr refusal) =
              runs-end source sink (frames-refuses from.options) from.first u from.before k' is.text (Some (fault_of fault))
              (ends-at-last source (rule_of (Frames from.options)) from.first u is.lines is.text is.read.handled line moved.took (fault_of fault) moved.some (refused-rule (fault_of fault) refusal.0)
              (of-lines (fault_of fault) refusal.0))
              (subst (λ l. IsWritten sink from.before l is.text) (sym refusal.1) is.written)
              (λ e. absurd (not-memory (of-lines (fault_of fault) refusal.0) e))

-- if no line may follow, the run has ended
pub stopped : {S K : Type 0} (source : Source S) (sink : Sink K) (from : Origin source sink) (s : S) (k : K) (at : FrameLines) (posed : Posed) (n : ℕ) (more : Bool) → more ≡ false
    → GoesOn from s k at posed n (Ok more) → RunsFrames from s k None n
stopped source sink from s k at posed n false e goes = goes
stopped source sink from s k at posed n true e goes = absurd (cc)
