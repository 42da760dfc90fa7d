use Rattle.std.proofs.Common.{◌≡◌, drop}
use Rattle.std.specs.Str.{bytes_eq}
use Rattle.number_width.specs.Numbers.{numbers_in}
use Rattle.table_file.proofs.difference.are_same_numbers.Given as goal

-- the numbers so far are the same
abbrev pub invariant-loop-at : goal.invariant-loop-at
invariant-loop-at l = bytes_eq (drop l.at (numbers_in l.a)) (drop l.at (numbers_in l.b)) ≡ bytes_eq (numbers_in l.a) (numbers_in l.b)
