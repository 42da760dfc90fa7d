-- The replies about a stored table: its agreement with the table of a mesh, and its points.
use Rattle.std.specs.Prelude.{ℕ, List, [], ◌∷◌, codes, None}
use Rattle.std.specs.List.{All, flat_map}
use Rattle.subdiv_model.specs.NumberText.{number_text}
use Rattle.subdiv_model.specs.Text.{line_text}
use Rattle.far_text.specs.Lines.{valued_line}
use Rattle.far_text.specs.Points.{CanBeWritten}
use Rattle.far_text.specs.declared.stored.TablePoints.{TablePoints}

-- the line which says that a table with this number of rows agrees with another
abbrev pub agreement_line : ℕ → List ℕ
agreement_line rows = line_text (codes "table") (codes "agrees" ∷ number_text rows ∷ [])

-- a line for each point of a table
abbrev pub point_lines : TablePoints → List ℕ
point_lines points = flat_map (valued_line None points.common) points.values.items

-- all points of a table can be written
abbrev pub CanPointsBePut : TablePoints → Type 0
CanPointsBePut points = All (CanBeWritten points.common) points.values.items
