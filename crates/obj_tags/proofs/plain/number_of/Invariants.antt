use Rattle.std.proofs.Common.{◌≡◌, ◌<◌, ◌^◌, take}
use Rattle.subdiv_model.specs.Digits.{number_of_digits}
use Rattle.obj_tags.proofs.plain.number_of.Given as goal

-- what the digits so far say
abbrev pub invariant-loop-byte : goal.invariant-loop-byte
invariant-loop-byte l = record {
  number : l.number ≡ number_of_digits (take l.byte-index l.digits);
  below : l.number < 10 ^ l.byte-index;
}
