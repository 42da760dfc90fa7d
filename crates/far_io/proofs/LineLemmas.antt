-- One read of a reader of lines after another.
use Rattle.std.proofs.Common.{◌≡◌, ℕ, ◌+◌, ◌≤◌, inl, inr, List, [], ◌++◌, length, Option, Some, None, Result, Ok, Err, IsErr, OnErr, arith, refl, sym, ap, ◌∙◌, subst, append_assoc, append-nil, length-append}
use Rattle.far_io.specs.Bytes.{Rose, Took}
use Rattle.std.proofs.lemmas.List.{nil_from_length}
use Rattle.far_io.specs.Buffer.{BufferedLine, FillsBy}
use Rattle.far_io.specs.Lines.{LineInput, HasNoLf, IsNext, IsCounted, ReadsLine, ReadsOn}
use Rattle.far_io.specs.declared.source.ReadFailed.{ReadFailed}
use Rattle.far_io.specs.declared.source.Source.{Ghosts}
use Rattle.far_io.specs.declared.lines.NextLine.{NextLine}
use Rattle.far_io.specs.declared.lines.NextLine.TheVariants.{Closed, Last, End, Full, Long}
use Rattle.far_io.proofs.BytesLemmas.{Took-more}

pub Took-none : (left : Option (List ℕ)) → Took left left []
Took-none (Some left) = refl
Took-none None = tt

pub rose-later : (start old new : ℕ) → start ≤ old → Rose old new → Rose start new
rose-later start old new later (inl rose) = inl (omega (arith, later, rose))
rose-later start old new later (inr end) = inr end

-- The bytes pending at first, and all bytes that came.
pub joined : (first pending bytes more : List ℕ) → pending ≡ first ++ bytes → first ++ (bytes ++ more) ≡ pending ++ more
joined first pending bytes more kept = sym (append_assoc first bytes more) ∙ ap (λ r. r ++ more) (sym kept)

module _ (a b c : LineInput) (bytes more : List ℕ) (left : Option (List ℕ)) (kept : b.pending ≡ a.pending ++ bytes) where
  next-later : (r : Result NextLine ReadFailed) → IsNext b c more left r → IsNext a c (bytes ++ more) left r
  next-later (Ok Closed) h = (joined _ _ _ more kept ∙ h.0, h.1)
  next-later (Ok Last) h = (joined _ _ _ more kept ∙ h.0, h.1, h.2, h.3, h.4)
  next-later (Ok End) h = (joined _ _ _ more kept ∙ h.0, h.1, h.2, h.3)
  next-later (Ok Full) h = (joined _ _ _ more kept ∙ h.0, h.1, h.2, h.3)
  next-later (Ok Long) h = ((h.0.0, joined _ _ _ more kept ∙ h.0.1), h.1, h.2, h.3)
  next-later (Err e) h = (joined _ _ _ more kept ∙ h.0, h.1, h.2, h.3)

  counted-later : (r : Result NextLine ReadFailed) → b.allowed + length bytes ≡ a.allowed → IsCounted b.allowed c.allowed more r →
      IsCounted a.allowed c.allowed (bytes ++ more) r
  counted-later (Ok Closed) h k = omega (arith, h, k, length-append bytes more)
  counted-later (Ok Last) h k = omega (arith, h, k, length-append bytes more)
  counted-later (Ok End) h k = omega (arith, h, k, length-append bytes more)
  counted-later (Ok Full) h k = omega (arith, h, k, length-append bytes more)
  counted-later (Ok Long) h k = (omega (arith, h, k.0, length-append bytes more), k.1)
  counted-later (Err e) h k = omega (arith, h, k, length-append bytes more)

cause-later : (start old new : ℕ) (r : Result NextLine ReadFailed) → start ≤ old → OnErr r (Rose old new) → OnErr r (Rose start new)
cause-later start old new (Ok found) later h = tt
cause-later start old new (Err e) later h = rose-later start old new later h

module _ {S : Type 0} {source : Ghosts S} where
  -- bytes came, and then the end of the line
  pub on-line : {a b c : LineInput} {s t u : S} {r : Result NextLine ReadFailed} → ReadsOn source a b s t → ReadsLine source b c t u r →
      ReadsLine source a c s u r
  on-line {a} {b} {c} {s} {t} {u} {r} p q = record {
    bytes = p.bytes ++ q.bytes;
    took = Took-more (source.left s) (source.left t) (source.left u) p.bytes q.bytes p.took q.took;
    next = next-later a b c p.bytes q.bytes (source.left u) p.kept r q.next;
    counted = counted-later a b c p.bytes q.bytes (source.left u) p.kept r p.counted q.counted;
    cause = cause-later (source.faults s) (source.faults t) (source.faults u) r p.later q.cause;
    later = omega (arith, p.later, q.later);
    room = q.room ∙ p.room;
  }

  -- a fault that is handed on
  pub failed-any : {a c : LineInput} {s u : S} {e : ReadFailed} (r : Result NextLine ReadFailed) → IsErr r → ReadsLine source a c s u (Err e) →
      ReadsLine source a c s u r
  failed-any (Ok found) err q = absurd (cc)
  failed-any (Err e) err q = record { bytes = q.bytes; took = q.took; next = q.next; counted = q.counted; cause = q.cause; later = q.later; room = q.room }

  -- the input has ended
  pub ends-now : (a c : LineInput) (s t : S) (found : NextLine) → Took (source.left s) (source.left t) [] → IsNext a c [] (source.left t) (Ok found) →
      IsCounted a.allowed c.allowed [] (Ok found) → source.faults s ≤ source.faults t → c.room ≡ a.room → ReadsLine source a c s t (Ok found)
  ends-now a c s t found took next counted later room = record {
    bytes = [];
    took = took;
    next = next;
    counted = counted;
    cause = tt;
    later = later;
    room = room;
  }

  -- A read that added no byte.
  pub none-came : (a b : LineInput) (old new : BufferedLine) (s t : S) (most n : ℕ) → n ≡ 0 → FillsBy source old new s t most n → old.pending ≡ a.pending →
      new.pending ≡ b.pending → HasNoLf a.pending → b.line ≡ [] → b.allowed + n ≡ a.allowed → source.faults s ≤ source.faults t → b.room ≡ a.room →
      ReadsOn source a b s t
  none-came a b old new s t most n none fills was is plain line counted later room =
      let nothing : fills.bytes ≡ [] = nil_from_length fills.bytes (fills.count ∙ none) in
      let kept : b.pending ≡ a.pending ++ fills.bytes = sym is ∙ fills.kept ∙ ap (λ r. r ++ fills.bytes) was in
      record {
        bytes = fills.bytes;
        took = fills.took;
        kept = kept;
        plain = subst HasNoLf (sym (kept ∙ ap (λ r. a.pending ++ r) nothing ∙ append-nil a.pending)) plain;
        line = line;
        counted = omega (arith, counted, fills.count);
        later = later;
        room = room;
      }
