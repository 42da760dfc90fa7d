-- The number that two words spell.
use Rattle.std.specs.Prelude.{ℕ, ◌+◌, ◌-◌, ◌*◌, ◌^◌, ℤ, pos, negsuc, nat_lt, if◌then◌else◌}
use Rattle.flat_arrays.specs.declared.wide.Wide.{Wide}

-- The natural number that two words spell.
abbrev pub natural_of : Wide → ℕ
natural_of w = w.low + 2 ^ 64 * w.high

-- The integer whose two's complement in 128 bits is the natural number `n`.
abbrev pub integer_from : ℕ → ℤ
integer_from n = if (nat_lt n (2 ^ 127)) then (pos n) else (negsuc (2 ^ 128 - 1 - n))

-- The integer that two words spell in two's complement.
abbrev pub integer_of : Wide → ℤ
integer_of w = integer_from (natural_of w)
