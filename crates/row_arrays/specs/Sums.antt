-- Sums of products in 128 bits.
use Rattle.std.specs.Prelude.{◌^◌, ℤ, pos, negsuc, ◌+ℤ◌, nat_lt, List, Option, Some, None, option_and_then, if◌then◌else◌}
use Rattle.std.specs.List.{fold}

-- The integer, if it fits two's complement of 128 bits.
abbrev pub fitting : ℤ → Option ℤ
fitting (pos n) = if (nat_lt n (2 ^ 127)) then (Some (pos n)) else None
fitting (negsuc n) = if (nat_lt n (2 ^ 127)) then (Some (negsuc n)) else None

-- A sum plus a product, if the sum exists and both the product and the new sum fit.
abbrev pub plus : Option ℤ → ℤ → Option ℤ
plus sum product = option_and_then (λ before. option_and_then (λ fits. fitting (before +ℤ fits)) (fitting product)) sum

-- The sum of products, added in order.
abbrev pub sum_of : List ℤ → Option ℤ
sum_of products = fold plus (Some (pos 0)) products
