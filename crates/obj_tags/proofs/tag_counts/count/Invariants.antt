use Rattle.std.proofs.Common.{◌≡◌, ◌^◌, ◌<◌, true, take}
use Rattle.std.specs.List.{list_all}
use Rattle.subdiv_model.specs.Digits.{is_digit, number_of_digits}
use Rattle.obj_tags.proofs.tag_counts.count.Given as goal

-- the bytes so far are digits, and what they say
abbrev pub invariant-loop-digit : goal.invariant-loop-digit
invariant-loop-digit l = record {
  digits : list_all is_digit (take l.digit-index l.word) ≡ true;
  number : l.number ≡ number_of_digits (take l.digit-index l.word);
  bound : l.number < 10 ^ l.digit-index;
}
