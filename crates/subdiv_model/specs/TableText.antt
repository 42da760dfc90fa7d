-- The text of a stencil table.
-- Source: Drillolive.
use Rattle.std.specs.Prelude.{ℕ, List, [], ◌∷◌, ◌++◌, length, codes}
use Rattle.std.specs.List.{flat_map}
use Rattle.subdiv_model.specs.Level.{Level}
use Rattle.subdiv_model.specs.Mask.{Scheme}
use Rattle.subdiv_model.specs.Table.{Share, Row, Table, entries_of, level_table}
use Rattle.subdiv_model.specs.NumberText.{number_text}
use Rattle.subdiv_model.specs.Text.{line_text}

-- a control point with its numerator
abbrev pub share_words : Share → List (List ℕ)
share_words share = number_text share.0 ∷ number_text share.1 ∷ []

-- the line of a row: its denominator, and each control point with its numerator
abbrev pub row_text : Row → List ℕ
row_text row = line_text (codes "s") (number_text row.den ∷ flat_map share_words row.shares)

-- the first line: the numbers of control points, rows and entries
abbrev pub table_line : ℕ → ℕ → ℕ → List ℕ
table_line controls rows entries =
    line_text (codes "table") (codes "controls" ∷ number_text controls ∷ codes "rows" ∷ number_text rows ∷ codes "entries" ∷ number_text entries ∷ [])

-- the text of a table: its first line, then a line for each row
abbrev pub text_of_table : Table → List ℕ
text_of_table table = table_line table.controls (length table.rows) (entries_of table.rows) ++ flat_map row_text table.rows

-- the text of the table of the level after k steps
abbrev pub table_text : Level → Scheme → ℕ → List ℕ
table_text level scheme k = text_of_table (level_table level scheme k)
