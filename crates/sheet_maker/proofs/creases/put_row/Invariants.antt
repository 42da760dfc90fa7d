use Rattle.std.proofs.Common.{◌≡◌, ◌++◌, map}
use Rattle.std.specs.List.{All, range_with_len}
use Rattle.sharpness_rules.specs.View.{sharpness_of}
use Rattle.raw_mesh.specs.View.{crease_of}
use Rattle.sheet_maker.specs.Rows.{crease_at, HasEnds}
use Rattle.sheet_maker.proofs.creases.put_row.Given as goal

-- the creases of the row so far
abbrev pub invariant-loop-j : goal.invariant-loop-j
invariant-loop-j l = record {
  creases : map crease_of l.creases.items ≡ map crease_of l.fn.creases.items ++ map (crease_at l.size l.i (sharpness_of l.sharpness)) (range_with_len 0 l.j);
  ends : All (HasEnds l.size) l.creases.items;
}
