-- The parts of a text, and one read after another.
use Rattle.std.proofs.Common.{◌≡◌, ℕ, ◌+◌, ◌-◌, ◌<◌, ◌≤◌, List, [], ◌∷◌, ◌++◌, length, take, drop, Option, Some, None, Result, Ok, Err, arith, refl, sym, ap, ◌∙◌, append_assoc, append-nil, length-append, length-drop}
use Rattle.std.specs.List.{position, list_any}
use Rattle.std.proofs.Math.Seq.{take-add}
use Rattle.std.proofs.lemmas.Grind.{common_steps}
use Rattle.std.proofs.lemmas.List.{take_all, drop-drop, drop_more}
use Rattle.far_io.specs.Buffer.{part}
use Rattle.far_io.specs.Bytes.{Took, TookOne}
use Rattle.far_io.specs.Lines.{is_lf, HasNoLf, IsClosed}
use Rattle.far_io.specs.Text.{TextInput, passed, IsBetweenLines, IsPending, IsNextText, IsCountedText, ReadsText, ReadsOnText, ReadsMoreText, IsKept, IsTextPlaced}
use Rattle.far_io.specs.declared.source.InputFault.{InputFault}
use Rattle.far_io.specs.declared.source.InputFault.TheVariants.{Read, Long, Memory}
use Rattle.far_io.specs.declared.source.Source.{Ghosts}
use Rattle.far_io.specs.declared.text.NextText.{NextText}
use Rattle.far_io.specs.declared.text.NextText.TheVariants.{Closed, Last, End}
use Rattle.far_io.proofs.BytesLemmas.{Took-more}
use Rattle.far_io.proofs.LfLemmas.{has-none, found-at, lf-at}
use Rattle.far_io.proofs.LineLemmas.{rose-later, joined}

-- The bytes before a place are those before the line, the line, and its end.
pub before-place : {bytes : List ℕ} {start size from searched : ℕ} → IsTextPlaced bytes start size from searched →
    take from bytes ≡ take start bytes ++ (part start size bytes ++ part (start + size) (from - (start + size)) bytes)
before-place {bytes} {start} {size} {from} {searched} placed =
    let end : from - (start + size) + (start + size) ≡ from = omega (arith, placed.line_in) in
    ap (λ n. take n bytes) (omega (arith, end))
    ∙ take-add start (size + (from - (start + size))) bytes
    ∙ ap (λ r. take start bytes ++ r) (take-add size (from - (start + size)) (drop start bytes))
    ∙ ap (λ r. take start bytes ++ (part start size bytes ++ take (from - (start + size)) r)) (drop-drop size start bytes)

-- where no LF was found, all that is pending is known
pub text-plain : {bytes pending : List ℕ} {start size from searched all : ℕ} → IsTextPlaced bytes start size from searched → drop from bytes ≡ pending →
    None ≡ position is_lf pending → all ≡ length bytes - from → IsTextPlaced bytes from 0 from all × HasNoLf (drop from bytes)
text-plain {bytes} {pending} {start} {size} {from} {searched} {all} placed same none is =
    let plain = has-none (drop from bytes) (ap (position is_lf) same ∙ sym none) in (
      record {
        line_in = omega arith;
        pending_in = omega (arith, placed.pending_in, is);
        plain = ap (list_any is_lf) (take_all all (drop from bytes) (omega (arith, is, length-drop from bytes))) ∙ plain;
      },
      plain,
    )

-- If an LF was found, the line and the bytes after it.
pub text-closed : (bytes pending : List ℕ) (from k : ℕ) → drop from bytes ≡ pending → Some k ≡ position is_lf pending →
    IsClosed pending (part from k bytes) (drop (from + (k + 1)) bytes)
text-closed bytes pending from k same found =
    let at = found-at (drop from bytes) k (ap (position is_lf) same ∙ sym found) in
    (sym same ∙ at.1.0 ∙ ap (λ r. part from k bytes ++ (10 ∷ r)) (drop-drop (k + 1) from bytes), at.1.1)

-- its end is LF
pub text-end : (bytes pending : List ℕ) (from k n : ℕ) → drop from bytes ≡ pending → Some k ≡ position is_lf pending → n ≡ 1 →
    part (from + k) n bytes ≡ 10 ∷ []
text-end bytes pending from k n same found one =
    let is = ap (position is_lf) same ∙ sym found in
    let at = found-at (drop from bytes) k is in
    ap (λ m. take m (drop (from + k) bytes)) one ∙ ap (take 1) (sym (drop-drop k from bytes)) ∙ ap (take 1) (drop_more (drop from bytes) k 0 at.0)
    ∙ ap (λ b. b ∷ []) (lf-at (drop from bytes) k is)

-- A reader between lines is behind all that it passed.
pub passed-between : (a : TextInput) → IsBetweenLines a → a.before ≡ passed a
passed-between a between =
    sym (append-nil a.before) ∙ ap (λ r. a.before ++ r) (sym (ap (λ r. r ++ a.end) between.line ∙ between.end))

-- If no LF was pending, fewer bytes follow the first LF than came with it.
fewer-than-came : (pending piece line after : List ℕ) → HasNoLf pending → pending ++ piece ≡ line ++ (10 ∷ after) → length after < length piece
fewer-than-came [] piece line after plain is = omega (arith, ap length is, length-append line (10 ∷ after))
fewer-than-came (x ∷ pending) piece [] after plain is = absurd (grind (arith, common_steps, plain, is))
fewer-than-came (x ∷ pending) piece (y ∷ line) after plain is =
    let less : HasNoLf pending = grind (arith, common_steps, plain) in
    fewer-than-came pending piece line after less (ap (drop 1) is)

-- If a line was found, no more bytes are pending than came last.
found-few : (pending : List ℕ) (new : TextInput) (piece : List ℕ) (left : Option (List ℕ)) (found : NextText) → HasNoLf pending →
    IsNextText pending new piece left (Ok found) → length new.pending ≤ length piece
found-few pending new piece left Closed plain next = omega (arith, fewer-than-came pending piece new.line new.pending plain next.0.0)
found-few pending new piece left Last plain next = omega (arith, ap length next.4)
found-few pending new piece left End plain next = omega (arith, ap length next.2)

pub kept-few : (pending : List ℕ) (new : TextInput) (piece : List ℕ) (r : Result (Option NextText) InputFault) → HasNoLf pending →
    IsKept pending new piece r → (found : NextText) → r ≡ Ok (Some found) → length new.pending ≤ length piece
kept-few pending new piece r plain kept found is =
    let here : IsKept pending new piece (Ok (Some found)) = rw is at kept in
    found-few pending new piece None found plain (here None)

module _ (first pending : List ℕ) (c : TextInput) (bytes more : List ℕ) (left : Option (List ℕ)) (kept : pending ≡ first ++ bytes) where
  pending-later : (last : List ℕ) → IsPending pending c last → IsPending first c (bytes ++ last)
  pending-later last h = (joined _ _ _ last kept ∙ h.0, h.1, h.2)

  next-later : (r : Result NextText InputFault) → IsNextText pending c more left r → IsNextText first c (bytes ++ more) left r
  next-later (Ok Closed) h = ((joined _ _ _ more kept ∙ h.0.0, h.0.1), h.1)
  next-later (Ok Last) h = (joined _ _ _ more kept ∙ h.0, h.1, h.2, h.3, h.4, h.5)
  next-later (Ok End) h = (joined _ _ _ more kept ∙ h.0, h.1, h.2, h.3)
  next-later (Err Read) h = pending-later more h
  next-later (Err Long) h = (bytes ++ h.0, h.1, ap (λ r. bytes ++ r) h.2 ∙ sym (append_assoc bytes h.0 (h.1 ∷ [])), pending-later h.0 h.3)
  next-later (Err Memory) h = (bytes ++ h.0, h.1, ap (λ r. bytes ++ r) h.2 ∙ sym (append_assoc bytes h.0 h.1), h.3, pending-later h.0 h.4)

counted-later : (a b c : TextInput) (bytes more : List ℕ) (r : Result NextText InputFault) → b.allowed + length bytes ≡ a.allowed → IsCountedText b.allowed c.allowed more r →
    IsCountedText a.allowed c.allowed (bytes ++ more) r
counted-later a b c bytes more (Ok found) h k = omega (arith, h, k, length-append bytes more)
counted-later a b c bytes more (Err Read) h k = omega (arith, h, k, length-append bytes more)
counted-later a b c bytes more (Err Long) h k = (omega (arith, h, k.0, length-append bytes more), k.1)
counted-later a b c bytes more (Err Memory) h k = omega (arith, h, k, length-append bytes more)

module _ {S : Type 0} {source : Ghosts S} where
  -- bytes came, and then the end of the line
  pub text-on-line : {a b c : TextInput} {s t u : S} {r : Result NextText InputFault} → ReadsOnText source a b s t → ReadsText source b c t u r →
      ReadsText source a c s u r
  text-on-line {a} {b} {c} {s} {t} {u} {r} p q = record {
    bytes = p.bytes ++ q.bytes;
    took = Took-more (source.left s) (source.left t) (source.left u) p.bytes q.bytes p.took q.took;
    next = next-later a.pending b.pending c p.bytes q.bytes (source.left u) (sym p.kept.0) r q.next;
    counted = counted-later a b c p.bytes q.bytes r p.counted q.counted;
    before = q.before ∙ sym (passed-between b p.kept.2) ∙ p.before;
    cause = λ is. rose-later (source.faults s) (source.faults t) (source.faults u) p.later (q.cause is);
    later = omega (arith, p.later, q.later);
  }

  -- one byte came that is not allowed
  pub too-long : (a : TextInput) (s t : S) → a.allowed ≡ 0 → HasNoLf a.pending → IsBetweenLines a → TookOne (source.left s) (source.left t) →
      source.faults s ≤ source.faults t → ReadsText source a a s t (Err Long)
  too-long a s t none plain between one later = record {
    bytes = one.0 ∷ [];
    took = one.1;
    next = ([], one.0, refl, (append-nil a.pending, plain, between));
    counted = (omega (arith, none), none);
    before = passed-between a between;
    cause = λ is. absurd (cc);
    later = later;
  }

module _ {S : Type 0} (source : Ghosts S) where
  -- a piece came, and was kept
  pub kept-more : (a : TextInput) (pending : List ℕ) (c : TextInput) (s t : S) (bytes : List ℕ) (r : Result (Option NextText) InputFault) → pending ≡ a.pending → c.before ≡ passed a →
      c.allowed + length bytes ≡ a.allowed → 0 < length bytes → length bytes ≤ 4096 → Took (source.left s) (source.left t) bytes →
      source.faults s ≤ source.faults t → IsKept pending c bytes r → ReadsMoreText source a c s t r
  kept-more a pending c s t bytes (Ok (Some found)) same before counted some few took later kept = record {
    bytes = bytes;
    took = took;
    next = next-later a.pending pending c [] bytes (source.left t) (same ∙ sym (append-nil a.pending)) (Ok found) (kept (source.left t));
    counted = counted;
    before = before;
    cause = λ is. absurd (cc);
    later = later;
  }
  kept-more a pending c s t bytes (Ok None) same before counted some few took later kept = (
    record {
      bytes = bytes;
      took = took;
      kept = pending-later a.pending pending c [] bytes (source.left t) (same ∙ sym (append-nil a.pending)) bytes kept;
      counted = counted;
      before = before;
      later = later;
    },
    omega (arith, counted, some),
  )
  kept-more a pending c s t bytes (Err Read) same before counted some few took later kept = absurd (cc)
  kept-more a pending c s t bytes (Err Long) same before counted some few took later kept = absurd (cc)
  kept-more a pending c s t bytes (Err Memory) same before counted some few took later kept = record {
    bytes = bytes;
    took = took;
    next = ([], bytes, refl, few, pending-later a.pending pending c [] bytes (source.left t) (same ∙ sym (append-nil a.pending)) [] kept.1);
    counted = counted;
    before = before;
    cause = λ is. absurd (cc);
    later = later;
  }
