use Rattle.std.proofs.Common.{◌≡◌}
use Rattle.std.specs.List.{flat_map, range_with_len}
use Rattle.sheet_maker.specs.Rows.{row_corners}
use Rattle.sheet_maker.proofs.quads.corners_of_quads.Given as goal

-- the quads of the rows so far
abbrev pub invariant-loop-i : goal.invariant-loop-i
invariant-loop-i l = l.corners.items ≡ flat_map (row_corners l.size) (range_with_len 0 l.i)
