use Rattle.std.proofs.Common.{◌≡◌, take}
use Rattle.subdiv_model.specs.Digits.{number_of_digits}
use Rattle.table_file.proofs.number.wide_number.Given as goal

-- the number is that of the digits so far
abbrev pub invariant-loop-byte : goal.invariant-loop-byte
invariant-loop-byte l = l.number ≡ number_of_digits (take l.byte-index l.digits)
