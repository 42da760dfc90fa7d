-- Inputs of a mesh and its table.
-- Source: Drillolive.
use Rattle.std.specs.Prelude.{◌≡◌, ℕ, List, [], ◌∷◌, length, None, codes}
use Rattle.subdiv_model.specs.NumberText.{number_text}
use Rattle.subdiv_model.specs.Table.{Table}
use Rattle.subdiv_model.specs.Text.{line_text}
use Rattle.subdiv_model.specs.TableText.{text_of_table}
use Rattle.far_model.specs.Answer.{composition_refusal, mesh_before_table, own_table}
use Rattle.far_model.specs.Stored.{mesh_part, table_part}

-- a mesh whose table at a depth is composed without refusal, followed by the text of the table
pub record InputWithTable : Type 0 where
  pub depth : ℕ
  pub bytes : List ℕ
  pub composed : composition_refusal depth 0 (mesh_part bytes) ≡ None
  pub own_text : table_part bytes ≡ text_of_table (own_table depth (mesh_before_table bytes))

-- the line that reports how many rows the table has
abbrev pub agreement : Table → List ℕ
agreement table = line_text (codes "table") (codes "agrees" ∷ number_text (length table.rows) ∷ [])
