-- Lemmas for a caller that begins a text, puts it, and ends it.
use Rattle.std.proofs.Common.{◌≡◌, ℕ, ◌≤◌, ◌⊎◌, inl, inr, Bool, false, List, ◌++◌, arith, Result, Ok, Err, IsTrue, IsErr, ap, ◌∙◌, subst}
use Rattle.std.specs.Borrow.{GName}
use Rattle.far_io.specs.Bytes.{Rose, AddedPrefix}
use Rattle.far_io.specs.Writes.{Writes}
use Rattle.far_io.specs.declared.sink.WriteFailed.{WriteFailed}
use Rattle.far_io.specs.declared.sink.Sink.{Ghosts}
use Rattle.obj_out.specs.TextSoFar.{IsTextSoFar}
use Rattle.obj_out.specs.Puts.{Begins, Puts, Ends}
use Rattle.obj_out.specs.declared.put.Out.{Out}
use Rattle.obj_out.proofs.PutsLemmas.{puts-fine, whole-at-end, prefix-at-end, rose-later}

-- a count that rose where no call had failed
rose-since : (failed : Bool) (start old new : ℕ) → failed ≡ false → start ≤ old → IsTrue failed ⊎ Rose old new → Rose start new
rose-since failed start old new fine later (inl before) = absurd (cc)
rose-since failed start old new fine later (inr rose) = rose-later start old new later rose

module _ {K : Type 0} {sink : Ghosts K} where
  so-far : {name : GName} {start : K} {begun out : Out K} {text : List ℕ} → Begins begun name start → Puts sink begun out text (Ok tt) →
      IsTextSoFar (sink.held start) (sink.held out.sink.now) out.waiting text
  so-far {start} {begun} {out} {text} b p =
      subst (λ (k : K). IsTextSoFar (sink.held k) (sink.held out.sink.now) out.waiting text) b.same
      (subst (λ (w : List ℕ). IsTextSoFar (sink.held begun.sink.now) (sink.held out.sink.now) out.waiting (w ++ text)) b.empty p.put)

  -- where all was put, and the text was ended
  pub written : {name : GName} {start final : K} {begun out : Out K} {text : List ℕ} {r : Result (Unit {0}) WriteFailed} →
      Begins begun name start → Puts sink begun out text (Ok tt) → Ends sink out final r → Writes sink start final text r
  written {start} {final} {begun} {out} {text} {r = Ok x} b p e = record {
    ok = whole-at-end (sink.held start) (sink.held out.sink.now) (sink.held final) out.waiting text (so-far b p) e.whole;
    prefix = tt;
    cause = tt;
    later = omega (arith, ap sink.faults b.same, p.later, e.later);
    fixed = e.fixed ∙ p.fixed ∙ ap sink.fixed b.same;
  }
  written {start} {final} {begun} {out} {text} {r = Err x} b p e =
      let later : sink.faults start ≤ sink.faults out.sink.now = omega (arith, ap sink.faults b.same, p.later) in
      record {
        ok = tt;
        prefix = prefix-at-end (sink.held start) (sink.held out.sink.now) (sink.held final) out.waiting text (so-far b p) e.prefix;
        cause = rose-since out.failed (sink.faults start) (sink.faults out.sink.now) (sink.faults final) (puts-fine p) later e.cause;
        later = omega (arith, later, e.later);
        fixed = e.fixed ∙ p.fixed ∙ ap sink.fixed b.same;
      }

  -- where a call failed before all was put
  pub unfinished : {name : GName} {start : K} {begun out : Out K} {text : List ℕ} {e : WriteFailed} {r : Result (Unit {0}) WriteFailed} →
      Begins begun name start → IsErr r → Puts sink begun out text (Err e) → Writes sink start out.sink.now text r
  unfinished {r = Ok x} b err p = absurd (cc)
  unfinished {start} {begun} {out} {text} {r = Err x} b err p = record {
    ok = tt;
    prefix =
        subst (λ (k : K). AddedPrefix (sink.held k) (sink.held out.sink.now) text) b.same
        (subst (λ (w : List ℕ). AddedPrefix (sink.held begun.sink.now) (sink.held out.sink.now) (w ++ text)) b.empty p.put);
    cause =
        rose-since begun.failed (sink.faults start) (sink.faults begun.sink.now) (sink.faults out.sink.now) b.fine (omega (arith, ap sink.faults b.same))
        p.cause;
    later = omega (arith, ap sink.faults b.same, p.later);
    fixed = p.fixed ∙ ap sink.fixed b.same;
  }
