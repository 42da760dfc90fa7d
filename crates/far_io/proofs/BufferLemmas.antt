-- The parts of a buffer after each of its changes.
use Rattle.std.proofs.Common.{◌≡◌, ℕ, ◌+◌, ◌-◌, ◌<◌, ◌≤◌, List, ◌∷◌, ◌++◌, length, take, drop, Some, None, Result, Ok, Err, IsErr, arith, sym, ap, ◌∙◌, subst, length-drop}
use Rattle.std.specs.List.{position, list_any}
use Rattle.std.proofs.Math.Seq.{take-add}
use Rattle.std.proofs.lemmas.List.{take-take, take_all, take-append-le, drop-take, drop-drop, length-take-le}
use Rattle.far_io.specs.Lines.{is_lf, HasNoLf, IsClosed}
use Rattle.far_io.specs.Buffer.{BufferedLine, IsPlaced, Fills, part}
use Rattle.far_io.specs.Bytes.{Rose}
use Rattle.far_io.specs.declared.source.ReadFailed.{ReadFailed}
use Rattle.far_io.specs.declared.source.Source.{Ghosts}
use Rattle.far_io.proofs.LfLemmas.{has-none, found-at}

-- a slice that was written back whole
pub written-back : (len : ℕ) (new rest : List ℕ) → length new ≡ len → take len (new ++ rest) ≡ new
written-back len new rest same = take-append-le len new rest (omega (arith, same)) ∙ take_all len new (omega (arith, same))

pub length-part : (at count : ℕ) (bytes : List ℕ) → at + count ≤ length bytes → length (part at count bytes) ≡ count
length-part at count bytes h = length-take-le count (drop at bytes) (omega (arith, h, length-drop at bytes))

-- a shorter part
part-part : (at k count : ℕ) (bytes : List ℕ) → k ≤ count → take k (part at count bytes) ≡ part at k bytes
part-part at k count bytes h = take-take k count (drop at bytes) h

-- the rest of a part
rest-part : (at k count : ℕ) (bytes : List ℕ) → k ≤ count → drop k (part at count bytes) ≡ part (at + k) (count - k) bytes
rest-part at k count bytes h =
    let split : k + (count - k) ≡ count = omega (arith, h) in
    ap (λ n. drop k (take n (drop at bytes))) (sym split) ∙ drop-take k (count - k) (drop at bytes) ∙ ap (take (count - k)) (drop-drop k at bytes)

-- If no LF was found, every pending byte was searched.
pub placed-plain : {bytes pending : List ℕ} {start size from count searched : ℕ} → IsPlaced bytes start size from count searched →
    part from count bytes ≡ pending → None ≡ position is_lf pending → IsPlaced bytes start 0 from count count × HasNoLf (part from count bytes)
placed-plain {bytes} {pending} {start} {size} {from} {count} {searched} p same none =
    let plain = has-none (part from count bytes) (ap (position is_lf) same ∙ sym none) in (
      record {
        line_in = omega (arith, p.line_in);
        pending_in = p.pending_in;
        known = omega arith;
        plain = ap (list_any is_lf) (part-part from count count bytes (omega arith)) ∙ plain;
      },
      plain,
    )

-- If an LF was found, the line and the bytes after it.
pub placed-closed : {bytes pending : List ℕ} {start size from count searched k : ℕ} → IsPlaced bytes start size from count searched →
    part from count bytes ≡ pending → Some k ≡ position is_lf pending →
    (k < count) × IsClosed pending (part from k bytes) (part (from + (k + 1)) (count - (k + 1)) bytes)
placed-closed {bytes} {pending} {start} {size} {from} {count} {searched} {k} p same found =
    let at = found-at (part from count bytes) k (ap (position is_lf) same ∙ sym found) in
    let below : k < count = omega (arith, at.0, length-part from count bytes p.pending_in) in
    let line = part-part from k count bytes (omega (arith, below)) in
    let rest = rest-part from (k + 1) count bytes (omega (arith, below)) in (
      below,
      (
        sym same ∙ at.1.0 ∙ ap (λ r. r ++ (10 ∷ drop (k + 1) (part from count bytes))) line ∙ ap (λ r. part from k bytes ++ (10 ∷ r)) rest,
        ap (list_any is_lf) (sym line) ∙ at.1.1,
      ),
    )

-- a part before the place that was written to
kept-part : (from count : ℕ) (old new : List ℕ) → take (from + count) new ≡ take (from + count) old → part from count new ≡ part from count old
kept-part from count old new same = sym (drop-take from count new) ∙ ap (drop from) same ∙ drop-take from count old

-- The bytes written behind the pending ones.
grown-part : (from count n : ℕ) (old new : List ℕ) → take (from + count) new ≡ take (from + count) old →
    part from (count + n) new ≡ part from count old ++ take n (drop (from + count) new)
grown-part from count n old new same =
    take-add count n (drop from new) ∙ ap (λ r. take count (drop from new) ++ take n r) (drop-drop count from new)
    ∙ ap (λ r. r ++ take n (drop (from + count) new)) (kept-part from count old new same)

-- A slice of the buffer behind the pending bytes was written, and written back whole.
module _ {start size from count searched : ℕ} (len : ℕ) (old slice new rest : List ℕ) (placed : IsPlaced old start size from count searched)
    (lent : slice ≡ old) (before : take (from + count) new ≡ take (from + count) slice) (same : length new ≡ length slice) (long : length slice ≡ len) where
  back : take len (new ++ rest) ≡ new
  back = written-back len new rest (omega (arith, same, long))

  before-old : take (from + count) new ≡ take (from + count) old
  before-old = before ∙ ap (take (from + count)) lent

  pub placed-grown : (n more : ℕ) → more ≡ count + n → (from + count) + n ≤ length old → IsPlaced (take len (new ++ rest)) 0 0 from more searched
  placed-grown n more is within =
      subst (λ (bytes : List ℕ). IsPlaced bytes 0 0 from more searched) (sym back)
      (record {
        line_in = omega arith;
        pending_in = omega (arith, same, within, is, ap length lent);
        known = omega (arith, placed.known, is);
        plain =
            ap (list_any is_lf)
            (part-part from searched more new (omega (arith, placed.known, is)) ∙ sym (part-part from searched count new placed.known)
            ∙ ap (take searched) (kept-part from count old new before-old))
            ∙ placed.plain;
      })

  pub pending-kept : part from count (take len (new ++ rest)) ≡ part from count old
  pending-kept = ap (part from count) back ∙ kept-part from count old new before-old

  pub pending-grown : (n : ℕ) → part from (count + n) (take len (new ++ rest)) ≡ part from count old ++ take n (drop (from + count) new)
  pending-grown n = ap (part from (count + n)) back ∙ grown-part from count n old new before-old

-- a read that failed
pub fills-failed : {S : Type 0} (source : Ghosts S) (old new : BufferedLine) (s s' : S) (most : ℕ) (r : Result ℕ ReadFailed) → IsErr r →
    new.pending ≡ old.pending → source.left s' ≡ source.left s → Rose (source.faults s) (source.faults s') → Fills source old new s s' most r
fills-failed source old new s s' most (Ok n) err kept left cause = absurd (cc)
fills-failed source old new s s' most (Err e) err kept left cause = (kept, left, cause)
