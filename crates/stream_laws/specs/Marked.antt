-- The bytes of a line without the byte order mark of its text.
-- Source: Drillolive.
use Rattle.std.specs.Prelude.{ℕ, List, [], ◌∷◌}
use Rattle.subdiv_model.specs.ReadObj.{without_mark}

-- the bytes of a line after others; the first line loses a byte order mark
abbrev pub bytes_after : List (List ℕ) → List ℕ → List ℕ
bytes_after [] line = without_mark line
bytes_after (first ∷ before) line = line
