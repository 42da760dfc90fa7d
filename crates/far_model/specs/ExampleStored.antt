-- Inputs with a stored table.
use Rattle.std.specs.Prelude.{ℕ, List, ◌++◌, codes}
use Rattle.subdiv_model.specs.ExampleTables.{small_text}
use Rattle.subdiv_model.specs.ExampleTexts.{square_text, square_table_text}

-- the two points that the small table is applied to
abbrev pub small_points : List ℕ
small_points = codes "v 0 0 0\nv 4 8 1\n"

-- the small table, and the two points after it
abbrev pub small_input : List ℕ
small_input = small_text ++ small_points

-- a square, and the table of its first level
abbrev pub square_input : List ℕ
square_input = square_text ++ square_table_text

-- a point, and the table of its first level, whose row has another denominator
abbrev pub point_input : List ℕ
point_input = codes "v 1 2 3\ntable controls 1 rows 1 entries 1\ns 2 0 2\n"
