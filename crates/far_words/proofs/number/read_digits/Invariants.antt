use Rattle.std.proofs.Common.{◌≡◌, ◌≤◌, true, take}
use Rattle.std.specs.List.{list_all}
use Rattle.subdiv_model.specs.Digits.{is_digit, number_of_digits}
use Rattle.far_words.proofs.number.read_digits.Given as goal

-- the bytes so far are digits, and the number is what they say
abbrev pub invariant-loop-byte : goal.invariant-loop-byte
invariant-loop-byte l = record {
  digits : list_all is_digit (take l.byte-index l.digits) ≡ true;
  number : l.number ≡ number_of_digits (take l.byte-index l.digits);
  fits : l.number ≤ 4294967295;
}
