-- A line of a text: its words.
use Rattle.std.specs.Prelude.{ℕ, List}

-- The words of a line, in order.
abbrev pub Line : Type 0
Line = List (List ℕ)
