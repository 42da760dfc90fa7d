use Rattle.std.proofs.Common.{◌≡◌, length}
use Rattle.sparse_level.proofs.TableLemmas.{AreNumbered}
use Rattle.sparse_level.proofs.numbering.number_points.Given as goal

-- the points so far have their numbers
abbrev pub invariant-loop-i : goal.invariant-loop-i
invariant-loop-i l = record {
  numbered : AreNumbered l.fn.points.items l.i l.next l.table.items l.points.items;
  size : length l.table.items ≡ l.count;
}
