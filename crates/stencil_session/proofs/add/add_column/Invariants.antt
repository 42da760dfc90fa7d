use Rattle.std.proofs.Common.{◌≡◌, ◌+◌, [], length, get_or, take}
use Rattle.stencil_session.specs.Session.{numbers_of}
use Rattle.stencil_session.specs.Columns.{marked, AreAdded}
use Rattle.stencil_session.proofs.add.add_column.Given as goal

-- the entries before this one are added and marked
abbrev pub invariant-loop-at : goal.invariant-loop-at
invariant-loop-at g l = record {
  values : AreAdded (take l.at (get_or l.columns l.control [])) (numbers_of l.difference) l.fn.values.items l.values.items;
  long : length l.values.items ≡ length l.fn.values.items;
  marks : l.marks ≡ marked l.fn.marks (take l.at (get_or l.columns l.control []));
  mark_count : length l.marks ≡ length l.fn.marks;
  taken : l.steps ≡ l.fn.steps + l.at;
}
