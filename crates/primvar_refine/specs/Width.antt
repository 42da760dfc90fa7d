-- The width of sums: the number of bits of the numbers in each sum of a level.
use Rattle.std.specs.Prelude.{ℕ, ◌-◌, ◌*◌, ◌^◌, ◌≤◌, nat_le, max, List, if◌then◌else◌}
use Rattle.subdiv_model.specs.Channel.{number_bound}
use Rattle.number_width.specs.declared.width.Width.{Width}
use Rattle.number_width.specs.declared.width.Width.TheVariants.{Narrow, Wide}
use Rattle.primvar_refine.specs.Rows.{Row, least_bound, greatest_of}

-- the greatest amount in sums of a width
abbrev pub sum_bound : Width → ℕ
sum_bound Narrow = 2 ^ 63 - 1
sum_bound Wide = number_bound

-- the width for denominators up to the greatest, where no value exceeds a whole number in amount
abbrev pub sum_width : ℕ → ℕ → Width
sum_width greatest most = if nat_le (greatest * max most 1) (2 ^ 63 - 1) then Narrow else Wide

-- sums of a width can have all numbers of these rows over denominators up to the greatest of these
pub record HasSums (width : Width) (dens : List ℕ) (rows : List Row) : Type 0 where
  pub short : greatest_of dens ≤ sum_bound width
  pub kept : greatest_of dens * least_bound rows ≤ sum_bound width
