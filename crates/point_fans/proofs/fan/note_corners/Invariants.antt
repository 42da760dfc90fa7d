use Rattle.std.proofs.Common.{◌≡◌, ℕ, true, length, map, take, get_or}
use Rattle.subdiv_model.specs.Polygons.{is_among}
use Rattle.point_fans.proofs.fan.note_corners.Given as goal

-- the corners of the faces so far are kept
abbrev pub invariant-loop-i : goal.invariant-loop-i
invariant-loop-i l = record {
  corners : (value : ℕ → ℕ) → l.at ≡ map value l.faces → (f : ℕ) → is_among (take l.i l.faces) f ≡ true → get_or l.corners.items f 0 ≡ value f;
  size : length l.corners.items ≡ length l.fn.corners.items;
}
