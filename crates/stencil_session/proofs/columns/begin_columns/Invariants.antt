use Rattle.std.proofs.Common.{◌≡◌, ℕ, ◌<◌, ◌≤◌, length, get_or, take, sum}
use Rattle.stencil_session.proofs.columns.begin_columns.Given as goal

-- the columns before this one begin where they should, and the counts from it on are as they were
abbrev pub invariant-loop-count : goal.invariant-loop-count
invariant-loop-count l = record {
  long : length l.count-items ≡ length l.fn.counts.items;
  next : l.next ≡ sum (take l.count-index l.fn.counts.items);
  begun : (i : ℕ) → i < l.count-index → get_or l.count-items i 0 ≡ sum (take i l.fn.counts.items);
  rest : (i : ℕ) → l.count-index ≤ i → get_or l.count-items i 0 ≡ get_or l.fn.counts.items i 0;
}
