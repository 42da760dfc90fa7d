-- Marks at numbers, which find a number that occurs twice in a list.
use Rattle.std.specs.Prelude.{ℕ, Bool, true, not, ◌&&◌, nat_eq, List, [], ◌∷◌, get_or, slice_set}

-- no number of the list is marked, if each is marked once it is seen
abbrev pub is_new : ℕ → List ℕ → List ℕ → Bool
is_new mark marks [] = true
is_new mark marks (v ∷ rest) = not (nat_eq (get_or marks v 0) mark) && is_new mark (slice_set marks v mark) rest
