-- Numbers, independent of their width.
use Rattle.std.specs.Prelude.{ℕ, ◌^◌, ◌-◌, nat_le, List, if◌then◌else◌}
use Rattle.number_width.specs.declared.width.Width.{Width}
use Rattle.number_width.specs.declared.width.Width.TheVariants as width
use Rattle.number_width.specs.declared.slice.NumberSlice.{NumberSlice}
use Rattle.number_width.specs.declared.slice.NumberSlice.TheVariants.{Narrow, Wide}

-- The narrowest width that holds a number.
abbrev pub width_for : ℕ → Width
width_for number = if nat_le number (2 ^ 64 - 1) then width.Narrow else width.Wide

-- The greatest number of a width.
abbrev pub most_of : Width → ℕ
most_of width.Narrow = 2 ^ 64 - 1
most_of width.Wide = 2 ^ 128 - 1

-- The numbers of a slice.
abbrev pub numbers_in : NumberSlice → List ℕ
numbers_in (Narrow numbers) = numbers.now
numbers_in (Wide numbers) = numbers.now

-- A list of numbers: the numbers, their width, and how many the list can hold without taking memory.
pub record Numbers : Type 0 where
  pub items : List ℕ
  pub width : Width
  pub capacity : ℕ
