use Rattle.std.proofs.Common.{◌≡◌, drop, map}
use Rattle.std.specs.Prelude.{zip}
use Rattle.std.specs.List.{All, flat_map, range_with_len}
use Rattle.raw_mesh.specs.View.{crease_of}
use Rattle.sheet_maker.specs.Rows.{point_count, drawn_creases, HasEnds}
use Rattle.sheet_maker.proofs.creases.creases_of_rows.Given as goal

-- the creases of the rows so far
abbrev pub invariant-loop-k : goal.invariant-loop-k
invariant-loop-k l = record {
  creases : map crease_of l.creases.items ≡ flat_map (drawn_creases l.size) (zip (range_with_len 1 l.k) (drop (point_count l.size) l.draws));
  ends : All (HasEnds l.size) l.creases.items;
}
