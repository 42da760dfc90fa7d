-- The texts of the numbers from 0 on, put one after another.
use Rattle.std.proofs.Common.{◌≡◌, ℕ, ◌+◌, ◌<◌, ◌≤◌, List, length, get_or, take, take_all, arith, Result, Ok, Err, IsErr, ap, sym}
use Rattle.std.specs.List.{flat_map, range_with_len}
use Rattle.std.proofs.lemmas.List.FromFn.{get_or-range_with_len, length-range_with_len}
use Rattle.far_io.specs.declared.sink.WriteFailed.{WriteFailed}
use Rattle.far_io.specs.declared.sink.Sink.{Ghosts}
use Rattle.obj_out.specs.Puts.{Puts}
use Rattle.obj_out.specs.declared.put.Out.{Out}
use Rattle.obj_out.proofs.PutsLemmas.{puts-next, puts-stop, puts-same}

-- the texts of all numbers
pub all-numbers : (text : ℕ → List ℕ) (n i : ℕ) → n ≤ i → flat_map text (take i (range_with_len 0 n)) ≡ flat_map text (range_with_len 0 n)
all-numbers text n i h = ap (flat_map text) (take_all i (range_with_len 0 n) (omega (arith, length-range_with_len 0 n)))

inside : (n i : ℕ) → i < n → i < length (range_with_len 0 n)
inside n i within = omega (arith, within, length-range_with_len 0 n)

there : (n i : ℕ) → i < n → get_or (range_with_len 0 n) i 0 ≡ i
there n i within = omega (arith, get_or-range_with_len 0 n i 0 within)

module _ {K : Type 0} {sink : Ghosts K} (text : ℕ → List ℕ) (n i : ℕ) (within : i < n) where
  -- the texts of the first numbers, then that of the next one
  pub number-next : {a b c : Out K} {r : Result (Unit {0}) WriteFailed} → Puts sink a b (flat_map text (take i (range_with_len 0 n))) (Ok tt) →
      Puts sink b c (text i) r → Puts sink a c (flat_map text (take (i + 1) (range_with_len 0 n))) r
  number-next p q = puts-next text (range_with_len 0 n) i 0 (inside n i within) p (puts-same (ap text (sym (there n i within))) q)

  -- the next one's text failed
  pub number-stop : {a b c : Out K} {e : WriteFailed} {r : Result (Unit {0}) WriteFailed} → IsErr r →
      Puts sink a b (flat_map text (take i (range_with_len 0 n))) (Ok tt) → Puts sink b c (text i) (Err e) →
      Puts sink a c (flat_map text (range_with_len 0 n)) r
  number-stop err p q = puts-stop text (range_with_len 0 n) i 0 (inside n i within) err p (puts-same (ap text (sym (there n i within))) q)
