-- The result of each kind of frame line.
use Rattle.std.proofs.Common.{◌≡◌, ◌≢◌, ℕ, ◌-◌, ◌*◌, ◌≤◌, max, ℤ, unsigned_abs, Bool, true, false, ◌&&◌, nat_lt, List, [], ◌∷◌, ◌++◌, length, map, set, codes, Option, Some, None, Result, Ok, Err, OnOk, IfErr, arith, append-nil, refl, ap, sym, ◌∙◌, subst, option_map, bytes_eq, if◌then◌else◌}
use Rattle.std.specs.List.{fold}
use Rattle.std.specs.Option.{option_or}
use Rattle.std.proofs.lemmas.Bool.{le-ltb, lt-ltb}
use Rattle.std.proofs.lemmas.List.{length-map, map-set}
use Rattle.std.proofs.lemmas.List.Sums.{fold-append}
use Rattle.std.proofs.lemmas.Slice.Eq.{bytes_eq-Decides}
use Rattle.subdiv_model.specs.Base.{base_level}
use Rattle.subdiv_model.specs.Mask.{CatmullClark}
use Rattle.subdiv_model.specs.ObjMesh.{ObjMesh}
use Rattle.subdiv_model.specs.Channel.{number_bound}
use Rattle.subdiv_model.specs.Channel as channel
use Rattle.subdiv_model.specs.Support.{refined_supports}
use Rattle.subdiv_model.specs.Lists.{places}
use Rattle.subdiv_model.specs.ObjFault.{ObjCause}
use Rattle.subdiv_model.specs.ObjLine.{line_words}
use Rattle.subdiv_model.specs.Fault.{Obj, Overflow, Positions, ValueOverflow}
use Rattle.far_model.specs.Refusal.{Answer, answer_unless}
use Rattle.far_model.specs.Frames.{Frame, frame_at, frame_after, frame_answer, frame_cause, frame_text, greatest_at, is_move_line, is_go_line, moved_index, moved_point, overflows, changed_points}
use Rattle.far_model.specs.Frames as model
use Rattle.far_io.specs.Bytes.{Added}
use Rattle.far_io.specs.Writes.{Writes}
use Rattle.far_io.specs.declared.sink.Sink.{Ghosts}
use Rattle.far_fault.specs.declared.fault.FarFault.{FarFault}
use Rattle.far_fault.specs.declared.fault.FarFault.TheVariants as answered
use Rattle.obj_tags.specs.View.{cause_of}
use Rattle.obj_tags.specs.declared.fault.ObjCause as tags
use Rattle.raw_mesh.specs.View.{point_of}
use Rattle.ratio128.specs.Numbers.{greatest_amount}
use Rattle.ratio128.specs.declared.point.Point3.{Point3}
use Rattle.table_answers.specs.FrameRequest.{IsMove, IsFrameLine}
use Rattle.table_answers.specs.declared.frame_line.FrameLine.{FrameLine}
use Rattle.table_answers.specs.declared.frame_line.FrameLine.TheVariants.{Empty, Move, Go}
use Rattle.stencil_apply.specs.Table.{greatest_of}
use Rattle.stencil_session.specs.Session.{State, IsState, numbers_of, after_move, mark_rows, rows_with}
use Rattle.table_answers.specs.FrameAnswers.{Answers, AnswersLine, IsPosedOn}
use Rattle.table_answers.specs.FrameLines.{marked_text, unmarked}
use Rattle.table_answers.specs.FrameMoves.{Moves}
use Rattle.table_answers.specs.Posed.{Posed, IsPosed, IsPosedAfter}
use Rattle.table_answers.specs.FrameStepCounts.{line_steps}
use Rattle.table_answers.proofs.FrameMarkLemmas.{is_moved, marks-more, marks-gone, rows-count}
use Rattle.table_answers.proofs.FramePointLemmas.{posed-text}

-- a line is not both `move` and `go`
pub not-go : (words : List (List ℕ)) → is_move_line words ≡ true → is_go_line words ≡ false
not-go [] move = refl
not-go (word ∷ words) move = ap (λ w. bytes_eq w (codes "go")) ((bytes_eq-Decides word (codes "move")).0 move)

-- nothing was added
added-nothing : (held : Option (List ℕ)) → Added held held []
added-nothing (Some bytes) = sym (append-nil bytes)
added-nothing None = tt

-- the greatest of three amounts, from either end
same-amount : (x y z : ℤ) → channel.greatest_amount (x ∷ y ∷ z ∷ []) ≡ greatest_amount (x ∷ y ∷ z ∷ [])
same-amount x y z = three (unsigned_abs x) (unsigned_abs y) (unsigned_abs z)
  where
    three : (a b c : ℕ) → max (max (max 0 a) b) c ≡ max a (max b (max c 0))
    three a b c = omega arith

-- a written text is an answer that is not refused
written-answer : {K : Type 0} (sink : Ghosts K) (k k' : K) (text : List ℕ) (r : Result (Unit {0}) FarFault) → text ≢ [] → Writes sink k k' text r → IfErr r (λ fault. fault ≡ answered.Write) →
    Answers sink (record { text = text; refusal = None }) k k' r
written-answer sink k k' text (Ok done) some writes fault = (refl, writes.ok)
written-answer sink k k' text (Err other) some writes fault =
    subst (λ f. Answers sink (record { text = text; refusal = None }) k k' (Err f)) (sym fault) (refl, some, writes.prefix, writes.cause)

module _ {K : Type 0} (sink : Ghosts K) (mesh : ObjMesh) (before : List (List (List ℕ))) (number : ℕ) (line : List ℕ) (session : State) (common depth : ℕ)
    (is : IsPosedAfter mesh before (record { session = session; common = common; depth = depth })) where
  abbrev old : Posed
  old = record { session = session; common = common; depth = depth }

  abbrev words : List (List ℕ)
  words = line_words line

  abbrev frame : Frame
  frame = frame_at mesh before

  -- the answer, from the fault of the line, its overflow, and its request for the points
  abbrev answer_by : Option ObjCause → Bool → Bool → Answer
  answer_by cause over go =
      answer_unless (option_or (option_map (λ c. Obj (record { line = number; cause = c })) cause) (if over then Some (Overflow Positions depth ValueOverflow) else None))
      (if go then frame_text depth mesh frame else [])

  answer-is : (cause : Option ObjCause) (over go : Bool) → frame_cause session.table.controls common line ≡ cause → overflows depth mesh words ≡ over → is_go_line words ≡ go →
      frame_answer depth mesh before number line ≡ answer_by cause over go
  answer-is cause over go caused overflown asked =
      ap (λ c. answer_by c (overflows depth mesh words) (is_go_line words))
      (sym (ap (λ n. frame_cause n common line) is.table.controls ∙ ap (λ n. frame_cause (length mesh.points) n line) is.common) ∙ caused)
      ∙ ap (λ b. answer_by cause b (is_go_line words)) overflown
      ∙ ap (λ b. answer_by cause over b) asked

  said : (cause : Option ObjCause) (over go : Bool) → frame_cause session.table.controls common line ≡ cause → overflows depth mesh words ≡ over → is_go_line words ≡ go →
      (k k' : K) (r : Result (Unit {0}) FarFault) → Answers sink (answer_by cause over go) k k' r → Answers sink (frame_answer depth mesh before number line) k k' r
  said cause over go caused overflown asked k k' r answers = subst (λ answer. Answers sink answer k k' r) (sym (answer-is cause over go caused overflown asked)) answers

  frame-more : frame_at mesh (before ++ words ∷ []) ≡ frame_after mesh.common frame words
  frame-more = fold-append (frame_after mesh.common) (record { controls = mesh.points; moved = [] }) before (words ∷ [])

  stays : (k : K) → sink.faults k ≤ sink.faults k
  stays k = omega arith

  nothing : (n m : ℕ) → n - n ≤ m
  nothing n m = omega arith

  -- a line without words
  empty-inside : (k : K) (n : ℕ) → frame_cause session.table.controls common line ≡ None → words ≡ [] → AnswersLine sink mesh before number line old old k k (Ok tt) (n - n)
  empty-inside k n fine empty = record {
    answers = said None false false fine (ap (overflows depth mesh) empty) (ap is_go_line empty) k k (Ok tt) (refl, added-nothing (sink.held k));
    posed = subst (λ f. IsPosed mesh f old) (sym (frame-more ∙ ap (frame_after mesh.common frame) empty)) is;
    depth = refl;
    steps = nothing n (line_steps depth mesh words);
    later = stays k;
    fixed = refl;
  }

  -- a line that is refused
  bad-inside : (cause : tags.ObjCause) (k : K) (n : ℕ) → frame_cause session.table.controls common line ≡ Some (cause_of cause) →
      AnswersLine sink mesh before number line old old k k (Err (answered.Obj number cause)) (n - n)
  bad-inside cause k n bad = record {
    answers = said (Some (cause_of cause)) (overflows depth mesh words) (is_go_line words) bad refl refl k k (Err (answered.Obj number cause)) (refl, refl);
    posed = refl;
    depth = refl;
    steps = nothing n (line_steps depth mesh words);
    later = stays k;
    fixed = refl;
  }

  -- a line that asks for the points
  module _ (fine : frame_cause session.table.controls common line ≡ None) (go : is_go_line words ≡ true) (apart : is_move_line words ≡ false) where
    frame-cleared : frame_at mesh (before ++ words ∷ []) ≡ record { controls = frame.controls; moved = [] }
    frame-cleared =
        frame-more
        ∙ ap (λ b. if b then model.moved_frame mesh.common frame words else if is_go_line words then record { controls = frame.controls; moved = [] } else frame) apart
        ∙ ap (λ b. if b then record { controls = frame.controls; moved = [] } else frame) go

    posed-cleared : IsPosed mesh (record { controls = frame.controls; moved = [] }) (record { session = unmarked session; common = common; depth = depth })
    posed-cleared = record {
      table = is.table;
      state = record {
        table = is.state.table;
        each = is.state.each;
        alike = is.state.alike;
        fits = is.state.fits;
        marks = length-map session.marks (λ is_marked. false) ∙ is.state.marks;
      };
      controls = is.controls;
      marks = ap (map (λ is_marked. false)) is.marks ∙ marks-gone frame.moved (refined_supports (base_level mesh) CatmullClark depth);
      common = is.common;
      some = is.some;
      short = is.short;
      fits = is.fits;
    }

    posed-after : (next : State) (r : Result (Unit {0}) FarFault) → OnOk r (next ≡ unmarked session) → IfErr r (λ fault. fault ≡ answered.Write) →
        IsPosedOn mesh before words old (record { session = next; common = common; depth = depth }) r
    posed-after next (Err fault) none cut = subst (λ f. IsPosedOn mesh before words old (record { session = next; common = common; depth = depth }) (Err f)) (sym cut) tt
    posed-after next (Ok done) none cut =
        subst (λ f. IsPosed mesh f (record { session = next; common = common; depth = depth })) (sym frame-cleared)
        (subst (λ s. IsPosed mesh (record { controls = frame.controls; moved = [] }) (record { session = s; common = common; depth = depth })) (sym none) posed-cleared)

    some-text : frame_text depth mesh frame ≢ []
    some-text e = cc

    go-inside : (next : State) (k k' : K) (r : Result (Unit {0}) FarFault) (n : ℕ) → Writes sink k k' (marked_text common session) r → OnOk r (next ≡ unmarked session) →
        IfErr r (λ fault. fault ≡ answered.Write) → AnswersLine sink mesh before number line old (record { session = next; common = common; depth = depth }) k k' r (n - n)
    go-inside next k k' r n writes none fault =
        let whole : Writes sink k k' (frame_text depth mesh frame) r = subst (λ text. Writes sink k k' text r) (posed-text mesh frame old is) writes in
        let over : overflows depth mesh words ≡ false = ap (λ b. b && nat_lt number_bound (greatest_at depth mesh * channel.greatest_amount (model.numbers_of (moved_point mesh.common words)))) apart in
        record {
          answers = said None false true fine over go k k' r (written-answer sink k k' (frame_text depth mesh frame) r some-text whole fault);
          posed = posed-after next r none fault;
          depth = refl;
          steps = nothing n (line_steps depth mesh words);
          later = writes.later;
          fixed = writes.fixed;
        }

  -- a line that moves a control point
  module _ (fine : frame_cause session.table.controls common line ≡ None) (count : ℕ) (index : ℕ) (target : Point3) (move : IsMove count common words index target) where
    target-is : point_of target ≡ moved_point mesh.common words
    target-is = move.point ∙ ap (λ n. moved_point n words) is.common

    -- the number that is compared with the bound
    amount-is : greatest_at depth mesh * channel.greatest_amount (model.numbers_of (moved_point mesh.common words)) ≡ greatest_of session.table * greatest_amount (numbers_of target)
    amount-is =
        ap (λ dens. fold max 1 dens * channel.greatest_amount (model.numbers_of (moved_point mesh.common words))) (sym is.table.dens)
        ∙ ap (λ p. greatest_of session.table * channel.greatest_amount (model.numbers_of p)) (sym target-is)
        ∙ ap (λ n. greatest_of session.table * n) (same-amount target.x target.y target.z)

    over-is : (over : Bool) → nat_lt number_bound (greatest_of session.table * greatest_amount (numbers_of target)) ≡ over → overflows depth mesh words ≡ over
    over-is over test =
        ap (λ b. b && nat_lt number_bound (greatest_at depth mesh * channel.greatest_amount (model.numbers_of (moved_point mesh.common words)))) move.keyword
        ∙ ap (nat_lt number_bound) amount-is ∙ test

    frame-moved : frame_at mesh (before ++ words ∷ []) ≡ model.moved_frame mesh.common frame words
    frame-moved =
        frame-more
        ∙ ap (λ b. if b then model.moved_frame mesh.common frame words else if is_go_line words then record { controls = frame.controls; moved = [] } else frame) move.keyword

    controls-moved : set session.controls index (numbers_of target) ≡ map model.numbers_of (set frame.controls (moved_index words) (moved_point mesh.common words))
    controls-moved =
        ap (λ cs. set cs index (numbers_of target)) is.controls
        ∙ sym (map-set model.numbers_of frame.controls index (point_of target))
        ∙ ap (λ i. map model.numbers_of (set frame.controls i (point_of target))) move.index
        ∙ ap (λ p. map model.numbers_of (set frame.controls (moved_index words) p)) target-is

    marks-moved : mark_rows index session.table.rows session.marks ≡ map (is_moved (frame.moved ++ moved_index words ∷ [])) (refined_supports (base_level mesh) CatmullClark depth)
    marks-moved =
        ap (mark_rows index session.table.rows) (is.marks ∙ ap (map (is_moved frame.moved)) (sym is.table.supports))
        ∙ marks-more index frame.moved session.table.rows
        ∙ ap (map (is_moved (frame.moved ++ index ∷ []))) is.table.supports
        ∙ ap (λ i. map (is_moved (frame.moved ++ i ∷ [])) (refined_supports (base_level mesh) CatmullClark depth)) move.index

    posed-moved : IsState (after_move session (index, numbers_of target)) →
        IsPosed mesh (model.moved_frame mesh.common frame words) (record { session = after_move session (index, numbers_of target); common = common; depth = depth })
    posed-moved state = record {
      table = is.table;
      state = state;
      controls = controls-moved;
      marks = marks-moved;
      common = is.common;
      some = is.some;
      short = is.short;
      fits = is.fits;
    }

    -- a step for each row that has the control
    steps-are : line_steps depth mesh words ≡ rows_with index session.table
    steps-are =
        ap (λ b. if b then length (changed_points depth mesh (moved_index words ∷ [])) else 0) move.keyword
        ∙ ap (λ i. length (changed_points depth mesh (i ∷ []))) (sym move.index)
        ∙ sym (rows-count index 0 session.table.rows ∙ ap (λ xs. length (places (is_moved (index ∷ [])) xs)) is.table.supports)

    move-inside : (next : State) (k : K) (r : Result (Unit {0}) FarFault) (first last : ℕ) → Moves depth session next (index, numbers_of target) r first last →
        AnswersLine sink mesh before number line old (record { session = next; common = common; depth = depth }) k k r (last - first)
    move-inside next k (Ok done) first last moves = record {
      answers = said None false false fine (over-is false (le-ltb number_bound (greatest_of session.table * greatest_amount (numbers_of target)) moves.within)) (not-go words move.keyword) k k (Ok done)
          (refl, added-nothing (sink.held k));
      posed = subst (λ f. IsPosed mesh f (record { session = next; common = common; depth = depth })) (sym frame-moved)
          (subst (λ s. IsPosed mesh (model.moved_frame mesh.common frame words) (record { session = s; common = common; depth = depth })) (sym moves.moved)
          (posed-moved (subst IsState moves.moved moves.state)));
      depth = refl;
      steps = omega (arith, moves.steps, steps-are);
      later = stays k;
      fixed = refl;
    }
    move-inside next k (Err fault) first last moves = record {
      answers = said None true false fine (over-is true (lt-ltb number_bound (greatest_of session.table * greatest_amount (numbers_of target)) moves.above)) (not-go words move.keyword) k k (Err fault)
          (subst (λ f. Answers sink (answer_by None true false) k k (Err f)) (sym moves.fault) (refl, refl));
      posed = subst (λ f. IsPosedOn mesh before words old (record { session = next; common = common; depth = depth }) (Err f)) (sym moves.fault)
          (ap (λ (s : State). record { session = s; common = common; depth = depth }) moves.unchanged);
      depth = refl;
      steps = omega (arith, moves.none);
      later = stays k;
      fixed = refl;
    }

-- A fact about a mesh is one about the fields that it shows.
module _ {K : Type 0} (sink : Ghosts K) (mesh : ObjMesh) (before : List (List (List ℕ))) (number : ℕ) (line : List ℕ) (session : State) (common depth : ℕ)
    (old : Posed) (view : record { session = session; common = common; depth = depth } ≡ old) (is : IsPosedAfter mesh before old) (count : ℕ) (counts : count ≡ session.table.controls) where
  within : IsPosedAfter mesh before (record { session = session; common = common; depth = depth })
  within = subst (IsPosedAfter mesh before) (sym view) is

  caused : (cause : Option ObjCause) → frame_cause count common line ≡ cause → frame_cause session.table.controls common line ≡ cause
  caused cause found = ap (λ n. frame_cause n common line) (sym counts) ∙ found

  pub empty-line : (k : K) (n : ℕ) (read : FrameLine) → IsFrameLine count common line read → read ≡ Empty → AnswersLine sink mesh before number line old old k k (Ok tt) (n - n)
  empty-line k n read asks empty =
      let found : IsFrameLine count common line Empty = subst (IsFrameLine count common line) empty asks in
      subst (λ o. AnswersLine sink mesh before number line o o k k (Ok tt) (n - n)) view
      (empty-inside sink mesh before number line session common depth within k n (caused None found.0) found.1)

  pub bad-line : (cause : tags.ObjCause) (k : K) (n : ℕ) → frame_cause count common line ≡ Some (cause_of cause) →
      (new : Posed) → new ≡ old → AnswersLine sink mesh before number line old new k k (Err (answered.Obj number cause)) (n - n)
  bad-line cause k n bad new kept =
      subst (λ p. AnswersLine sink mesh before number line old p k k (Err (answered.Obj number cause)) (n - n)) (sym kept)
      (subst (λ o. AnswersLine sink mesh before number line o o k k (Err (answered.Obj number cause)) (n - n)) view
      (bad-inside sink mesh before number line session common depth within cause k n (caused (Some (cause_of cause)) bad)))

  pub go-line : (next : State) (k k' : K) (r : Result (Unit {0}) FarFault) (n : ℕ) (read : FrameLine) → IsFrameLine count common line read → read ≡ Go →
      Writes sink k k' (marked_text common session) r → OnOk r (next ≡ unmarked session) → IfErr r (λ fault. fault ≡ answered.Write) →
      AnswersLine sink mesh before number line old (record { session = next; common = common; depth = depth }) k k' r (n - n)
  go-line next k k' r n read asks go writes none fault =
      let found : IsFrameLine count common line Go = subst (IsFrameLine count common line) go asks in
      subst (λ o. AnswersLine sink mesh before number line o (record { session = next; common = common; depth = depth }) k k' r (n - n)) view
      (go-inside sink mesh before number line session common depth within (caused None found.0) found.1.0 found.1.1 next k k' r n writes none fault)

  pub move-line : (next : State) (k : K) (r : Result (Unit {0}) FarFault) (first last : ℕ) (read : FrameLine) (index : ℕ) (target : Point3) → IsFrameLine count common line read →
      read ≡ Move index target → Moves depth session next (index, numbers_of target) r first last →
      AnswersLine sink mesh before number line old (record { session = next; common = common; depth = depth }) k k r (last - first)
  move-line next k r first last read index target asks move moves =
      let found : IsFrameLine count common line (Move index target) = subst (IsFrameLine count common line) move asks in
      subst (λ o. AnswersLine sink mesh before number line o (record { session = next; common = common; depth = depth }) k k r (last - first)) view
      (move-inside sink mesh before number line session common depth within (caused None found.0) count index target found.1 next k r first last moves)
