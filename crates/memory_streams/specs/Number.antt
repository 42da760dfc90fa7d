-- A number for each list of numbers. Different lists have different numbers.
use Rattle.std.specs.Prelude.{ℕ, zero, suc, ◌+◌, ◌*◌, List, [], ◌∷◌}

-- The number, doubled `count` times.
abbrev pub doubled : ℕ → ℕ → ℕ
doubled zero n = n
doubled (suc count) n = 2 * doubled count n

-- The number of a list: an odd number for the rest, doubled as often as the first item says; 0 for no items.
unfoldable pub number_of_list : List ℕ → ℕ
number_of_list [] = 0
number_of_list (x ∷ xs) = doubled x (2 * number_of_list xs + 1)
