use Rattle.std.proofs.Common.{◌≡◌, ◌+◌, ◌++◌, length, map, take}
use Rattle.std.specs.Vec.{vec_capacity}
use Rattle.stencil_apply.proofs.push.push_entries.Given as goal

-- the entries before this one are pushed
abbrev pub invariant-loop-entry : goal.invariant-loop-entry
invariant-loop-entry l = record {
  indices : l.indices.items ≡ l.fn.indices.items ++ map (λ e. e.index) (take l.entry-index l.row);
  numerators : l.numerators.items ≡ l.fn.numerators.items ++ map (λ e. e.numerator) (take l.entry-index l.row);
  index_count : length l.indices.items ≡ length l.fn.indices.items + l.entry-index;
  numerator_count : length l.numerators.items ≡ length l.fn.numerators.items + l.entry-index;
  index_capacity : vec_capacity l.indices ≡ vec_capacity l.fn.indices;
  numerator_capacity : l.numerators.capacity ≡ l.fn.numerators.capacity;
  width : l.numerators.width ≡ l.fn.numerators.width;
}
