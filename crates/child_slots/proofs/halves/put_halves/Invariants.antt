use Rattle.std.proofs.Common.{◌≡◌, ℕ, Bool, length, map}
use Rattle.sharpness_rules.specs.View.{sharpness_of}
use Rattle.child_slots.specs.HalfTable.{AreHalvesPut}
use Rattle.child_slots.proofs.halves.put_halves.Given as goal

-- the halves of the edges so far are written
abbrev pub invariant-loop-i : goal.invariant-loop-i
invariant-loop-i l = record {
  count : length l.halves ≡ length l.fn.halves;
  put : (has : ℕ → Bool) → AreHalvesPut l.level has l.v 0 (map sharpness_of l.fn.halves) → AreHalvesPut l.level has l.v l.i (map sharpness_of l.halves);
}
