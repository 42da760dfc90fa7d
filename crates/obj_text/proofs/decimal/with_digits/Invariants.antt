use Rattle.std.proofs.Common.{◌≡◌, ◌+◌, ◌*◌, ◌^◌, ◌≤◌, take}
use Rattle.std.specs.List.{fold}
use Rattle.obj_text.specs.Significant.{IsSignificant, with_next_digit}
use Rattle.obj_text.proofs.decimal.with_digits.Given as goal

-- the number so far, and how many zeros it can end in
abbrev pub invariant-loop-byte : goal.invariant-loop-byte
invariant-loop-byte l = record {
  kept : IsSignificant l.number.amount l.number.zeros;
  says : l.number.amount * 10 ^ l.number.zeros ≡ fold with_next_digit (l.fn.start.amount * 10 ^ l.fn.start.zeros) (take l.byte-index l.digits);
  few : l.number.zeros ≤ l.fn.start.zeros + l.byte-index;
}
