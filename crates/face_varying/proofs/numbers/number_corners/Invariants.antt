use Rattle.std.proofs.Common.{◌≡◌, ◌≤◌, nat_eq, [], length, take, vec_len}
use Rattle.std.specs.Vec.{vec_capacity}
use Rattle.face_varying.specs.FirstOnes.{seen_after, numbers_after, AreKnown}
use Rattle.face_varying.proofs.numbers.number_corners.Given as goal

-- the labels before this one have their numbers, which the table knows
abbrev pub invariant-loop-label : goal.invariant-loop-label
invariant-loop-label l = record {
  known : AreKnown (seen_after nat_eq [] (take l.label-index l.labels)) l.known.items;
  size : length l.known.items ≡ length l.labels;
  count : l.count ≡ length (seen_after nat_eq [] (take l.label-index l.labels));
  few : l.count ≤ l.label-index;
  numbers : l.numbers.items ≡ numbers_after nat_eq [] (take l.label-index l.labels);
  put : vec_len l.numbers ≡ l.label-index;
  capacity : length l.labels ≤ vec_capacity l.numbers;
}
