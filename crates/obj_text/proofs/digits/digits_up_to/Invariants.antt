use Rattle.std.proofs.Common.{◌≡◌, ◌≤◌, true, take, min}
use Rattle.std.specs.List.{list_all}
use Rattle.subdiv_model.specs.Digits.{is_digit, number_of_digits}
use Rattle.obj_text.proofs.digits.digits_up_to.Given as goal

-- the bytes so far are digits, and the number is what they say, or the most
abbrev pub invariant-loop-byte : goal.invariant-loop-byte
invariant-loop-byte l = record {
  digits : list_all is_digit (take l.byte-index l.bytes) ≡ true;
  number : l.number ≡ min (number_of_digits (take l.byte-index l.bytes)) l.most;
  bound : l.number ≤ l.most;
}
