use Rattle.std.proofs.Common.{◌≡◌, ℕ, ◌≤◌, length, get_or, drop}
use Rattle.mesh_check.specs.Marks.{is_new}
use Rattle.mesh_check.proofs.corners.has_twice.Given as goal

-- the corners from here on decide
abbrev pub invariant-loop-i : goal.invariant-loop-i
invariant-loop-i l = record {
  decides : is_new l.mark l.marks.items (drop l.i l.face) ≡ is_new l.mark l.fn.marks.items l.face;
  low : (v : ℕ) → get_or l.marks.items v 0 ≤ l.mark;
  size : length l.marks.items ≡ length l.fn.marks.items;
}
