-- The values of the rows of a table over controls.
use Rattle.std.specs.Prelude.{ℕ, ◌-◌, ◌*◌, ◌^◌, ◌<◌, ◌≤◌, ℤ, pos, ◌+ℤ◌, nat_eq, nat_le, max, List, [], ◌∷◌, length, map, if◌then◌else◌}
use Rattle.std.specs.List.{All, fold, range_with_len}
use Rattle.ratio128.specs.Numbers.{greatest_amount}
use Rattle.number_width.specs.declared.width.Width.{Width}
use Rattle.number_width.specs.declared.width.Width.TheVariants as width
use Rattle.stencil_apply.specs.Table.{Share, Table, total_of, greatest_of}

-- the sum of the shares times the numbers of their controls is within a bound
pub record CanSum (bound : ℕ) (shares : List Share) (controls : List (List ℤ)) : Type 0 where
  pub some : 0 < total_of shares
  pub short : total_of shares ≤ bound
  pub each : All (λ share. 0 < share.1) shares
  pub inside : All (λ share. share.0 < length controls) shares
  pub within : All (λ numbers. total_of shares * greatest_amount numbers ≤ bound) controls

-- the greatest signed 64-bit number
abbrev pub word_bound : ℕ
word_bound = 2 ^ 63 - 1

-- the sum of each row of a table over the controls fits 64 bits
pub record CanSumNarrow (table : Table) (controls : List (List ℤ)) : Type 0 where
  pub short : greatest_of table ≤ word_bound
  pub within : All (λ numbers. greatest_of table * greatest_amount numbers ≤ word_bound) controls

-- the greatest amount of all controls, or 1 if all numbers are 0
abbrev pub greatest_of_all : List (List ℤ) → ℕ
greatest_of_all controls = fold max 1 (map greatest_amount controls)

-- `Narrow` if the greatest denominator times the greatest amount fits 64 bits, or else `Wide`
abbrev pub sum_width_of : Table → List (List ℤ) → Width
sum_width_of table controls =
    if nat_le (greatest_of table * greatest_of_all controls) word_bound then width.Narrow else width.Wide

-- each number plus a constant
abbrev pub moved : ℤ → List ℤ → List ℤ
moved by numbers = map (λ number. number +ℤ by) numbers

-- 1 at a place, and 0 elsewhere
abbrev pub unit_numbers : ℕ → ℕ → List ℤ
unit_numbers count v = map (λ k. if nat_eq k v then pos 1 else pos 0) (range_with_len 0 count)

-- the numerator of a control, or 0 if the row does not have it
abbrev pub numerator_of : List Share → ℕ → ℕ
numerator_of [] v = 0
numerator_of (share ∷ shares) v = if nat_eq share.0 v then share.1 else numerator_of shares v
