-- The place of the stored table in an input.
use Rattle.std.specs.Prelude.{ℕ, ◌≡◌, ◌≤◌, List, length, take, drop}
use Rattle.subdiv_model.specs.ReadObj.{obj_lines}
use Rattle.far_model.specs.Stored.{mesh_part, table_part}
use Rattle.table_answers.specs.declared.place.TablePlace.{TablePlace}

-- the lines of the mesh come before the place, and the lines of the table from it on
pub record IsTablePlace (bytes : List ℕ) (place : TablePlace) : Type 0 where
  pub inside : place.start ≤ length bytes
  pub few : place.lines ≤ place.start
  pub lines : place.lines ≡ length (mesh_part bytes)
  pub mesh : obj_lines (take place.start bytes) ≡ mesh_part bytes
  pub table : drop place.start bytes ≡ table_part bytes
