use Rattle.std.proofs.Common.{◌≡◌, ◌≤◌, take, vec_len}
use Rattle.std.specs.Vec.{vec_capacity}
use Rattle.sparse_level.proofs.faces.put_numbers.Given as goal

-- the numbers of the faces so far
abbrev pub invariant-loop-f : goal.invariant-loop-f
invariant-loop-f l = record {
  numbers : l.numbers.items ≡ take l.f l.sparse.numbers;
  put : vec_len l.numbers ≡ l.f;
  room : l.faces ≤ vec_capacity l.numbers;
}
