-- A text in a caller's bytes.
use Rattle.std.specs.Prelude.{ℕ, ◌≡◌, List, ◌++◌, length, take, drop}

-- The front contains as much of the text as fits, the bytes behind it stay, and the number is the length of the whole text.
pub record IsPut (text old new : List ℕ) (len : ℕ) : Type 0 where
  pub written : new ≡ take (length old) text ++ drop (length text) old
  pub counted : len ≡ length text
